-- A text tells one demonstration at most, or why it tells none.
use Rattle.std.proofs.Common.{◌≡◌, ◌∙◌, ℕ, None, Some, List, [], ◌++◌, refl, ap, sym, arith, append-nil, inl}
use Rattle.std.specs.Prelude.{codes}
use Rattle.std.proofs.lemmas.List.{append_cancel_left, append_cancel_right}
use Rattle.rtl_flat.specs.declared.signal.Signal.{Signal}
use Rattle.demo_trials.proofs.Demos.{same_number}
use Rattle.demo_trials.specs.Demos.{IsDemo, demo_text, signal_text, step_text}
use Rattle.demo_told.specs.declared.demo.Demo.{Demo}
use Rattle.desk_demo.specs.Files.{IsTold, IsUnread, Leads, NoLine, NoSignal, signal_of}
use Rattle.desk_demo.proofs.Feeds.{demo_is_line, first_line}

-- ---- lines of demonstrations

-- the line tells the trial, the step and the path
record AreSame (t u k l : ℕ) (p q : List ℕ) : Type 0 where
  pub trial : t ≡ u
  pub step : k ≡ l
  pub path : p ≡ q

line_once : (t u k l : ℕ) (p q : List ℕ) → IsDemo t k p → IsDemo u l q → demo_text t k p ≡ demo_text u l q → AreSame t u k l p q
line_once t u k l p q one other e =
    let t_small = one.there in
    let u_small = other.there in
    let k_small = one.shown.last in
    let l_small = other.shown.last in
    let trials = same_number t u (step_text k p) (step_text l q) (grind (arith, t_small)) (grind (arith, u_small)) (append_cancel_left (codes "trial ") _ _ e) in
    let steps = same_number k l (signal_text p) (signal_text q) (grind (arith, k_small)) (grind (arith, l_small)) (append_cancel_left (codes "step ") _ _ trials.1) in
    record {
      trial = trials.0;
      step = steps.0;
      path = append_cancel_right p q (codes "\n") (append_cancel_left (codes "signal ") _ _ steps.1);
    }

-- nothing is behind the line that the whole text is
none_behind : (text rest : List ℕ) (t u k l : ℕ) (p q : List ℕ) → IsDemo t k p → text ≡ demo_text t k p → IsDemo u l q → text ≡ demo_text u l q ++ rest → rest ≡ []
none_behind text rest t u k l p q one whole other begins =
    sym (first_line text (demo_text t k p) [] (demo_text u l q) rest (whole ∙ sym (append-nil (demo_text t k p))) (inl (demo_is_line t k p one)) (demo_is_line u l q other) begins).1

-- ---- files

some_once : (m n : ℕ) → Some m ≡ Some n → m ≡ n
some_once m n e = cc

some_not : (n : ℕ) → Some n ≡ None → ⊥
some_not n e = cc

abbrev demo_of : ℕ → ℕ → ℕ → Demo
demo_of trial step signal = record { trial = trial; step = step; signal = record { 0 = signal } }

pub one_told : (signals : List Signal) (text : List ℕ) (one other : Demo) → IsTold signals text one → IsTold signals text other → one ≡ other
one_told signals text one other first second =
    let same = line_once one.trial other.trial one.step other.step first.path second.path first.is_demo second.is_demo (sym first.is_line ∙ second.is_line) in
    let signal : one.signal.0 ≡ other.signal.0 = some_once _ _ (sym first.is_signal ∙ ap (signal_of signals) same.path ∙ second.is_signal) in
    ap (λ t. demo_of t one.step one.signal.0) same.trial
    ∙ ap (λ k. demo_of other.trial k one.signal.0) same.step
    ∙ ap (demo_of other.trial other.step) signal

-- a text begins with one line of a demonstration at most
begun_once : (text : List ℕ) (t u k l : ℕ) (p q r s : List ℕ) → IsDemo t k p → IsDemo u l q → text ≡ demo_text t k p ++ r → text ≡ demo_text u l q ++ s → AreSame t u k l p q
begun_once text t u k l p q r s one other begins ends =
    line_once t u k l p q one other
    (first_line text (demo_text t k p) r (demo_text u l q) s begins (inl (demo_is_line t k p one)) (demo_is_line u l q other) ends).0

pub one_lead : (signals : List Signal) (text : List ℕ) (one other : Demo) → Leads signals text one → Leads signals text other → one ≡ other
one_lead signals text one other first second =
    let same = begun_once text one.trial other.trial one.step other.step first.path second.path first.rest second.rest first.is_demo second.is_demo first.parts second.parts in
    let signal : one.signal.0 ≡ other.signal.0 = some_once _ _ (sym first.is_signal ∙ ap (signal_of signals) same.path ∙ second.is_signal) in
    ap (λ t. demo_of t one.step one.signal.0) same.trial
    ∙ ap (λ k. demo_of other.trial k one.signal.0) same.step
    ∙ ap (demo_of other.trial other.step) signal

-- a text with a first line that is none has no line of a demonstration of a signal
unread_begins : (signals : List Signal) (text rest : List ℕ) (t k n : ℕ) (p : List ℕ) → IsUnread signals text → IsDemo t k p → text ≡ demo_text t k p ++ rest → signal_of signals p ≡ Some n → ⊥
unread_begins signals text rest t k n p (NoLine none) one parts named =
    none rest (record { trial = t; step = k; path = p; is_demo = one; parts = parts })
unread_begins signals text rest t k n p (NoSignal is) one parts named =
    let begins = is.begins in
    let same = begun_once text t begins.trial k begins.step p begins.path rest is.rest one begins.is_demo parts begins.parts in
    some_not n (sym named ∙ ap (signal_of signals) same.path ∙ is.no_signal)

pub told_or_unread : (signals : List Signal) (text : List ℕ) (demo : Demo) → IsTold signals text demo → IsUnread signals text → ⊥
told_or_unread signals text demo told unread =
    unread_begins signals text [] demo.trial demo.step demo.signal.0 told.path unread told.is_demo
    (told.is_line ∙ sym (append-nil (demo_text demo.trial demo.step told.path))) told.is_signal

pub leads_or_unread : (signals : List Signal) (text : List ℕ) (demo : Demo) → Leads signals text demo → IsUnread signals text → ⊥
leads_or_unread signals text demo leads unread =
    unread_begins signals text leads.rest demo.trial demo.step demo.signal.0 leads.path unread leads.is_demo leads.parts leads.is_signal

pub told_or_leads : (signals : List Signal) (text : List ℕ) (demo other : Demo) → IsTold signals text demo → Leads signals text other → ⊥
told_or_leads signals text demo other told leads =
    leads.some (none_behind text leads.rest demo.trial other.trial demo.step other.step told.path leads.path told.is_demo told.is_line leads.is_demo leads.parts)
