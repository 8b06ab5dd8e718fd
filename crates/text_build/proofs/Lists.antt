-- What holds of what repeats.
use Rattle.std.proofs.Common.{◌≡◌, ℕ, zero, suc, Bool, true, false, List, [], ◌∷◌, ◌++◌, length, Some, refl, sym, subst, ◌∙◌, append_assoc, append-nil}
use Rattle.rtl_tree.specs.declared.symbol.Symbol.{Symbol}
use Rattle.rtl_tree.specs.declared.symbol.Symbol.TheVariants as symbol
use Rattle.rtl_tree.specs.Symbols.{Terminal}
use Rattle.text_grammar.specs.Grammar.{Spelling, IsA, AreAll, AreMore, AreListed}
use Rattle.text_build.specs.Reading.{Parser, and_then, starts, after, add, turns, repeat, until_in, until, links, commas, listed}
use Rattle.text_build.proofs.Laws.Tokens.{after_not}
use Rattle.text_build.specs.Sound.{IsPlain}
use Rattle.text_build.proofs.Gives.{Gives, Sound, anything, bind, choose, weaken, after_found}

-- one or more that were read after what was found before, spelled so
pub record Linked {A : Type 0} (S : A → Spelling) (More : List A → Spelling) (found all : List A) (ts rest : List Terminal) : Type 0 where
  pub first : A
  pub others : List A
  pub middle : List Terminal
  pub is : all ≡ found ++ first ∷ others
  pub head : S first ts middle
  pub tail : More others middle rest

-- how more are spelled, and what stands between them
pub record Joins {A : Type 0} (S : A → Spelling) (More : List A → Spelling) (J : Spelling) (test : List Terminal → Bool) (left : List Terminal → List Terminal) : Type 0 where
  pub none : (ts : List Terminal) → More [] ts ts
  pub more : (x : A) (xs : List A) (ts mid next rest : List Terminal) → J ts mid → S x mid next → More xs next rest → More (x ∷ xs) ts rest
  pub joint : (ts : List Terminal) → IsPlain ts → test ts ≡ true → J ts (left ts) × IsPlain (left ts)
  pub same : (ts : List Terminal) → test ts ≡ false → left ts ≡ ts

-- one more was read
add_gives : {A : Type 0} (p : Parser A) (S : A → Spelling) → Sound p S → (found : List A) (ts : List Terminal) → IsPlain ts
    → Gives (add p found ts) (λ b mid. (x : A) × (b ≡ found ++ x ∷ []) × (S x ts mid × IsPlain mid))
add_gives p S c found ts pl = bind (c ts pl) (λ x mid w. record { given = (x, refl, w) })

module _ {A : Type 0} (p : Parser A) (S : A → Spelling) (More : List A → Spelling) (J : Spelling) (test : List Terminal → Bool) (left : List Terminal → List Terminal) (c : Sound p S) (j : Joins S More J test left) where
  one_more : (found all : List A) (x : A) (ts mid rest : List Terminal) → S x ts mid → J mid (left mid) → Linked S More (found ++ x ∷ []) all (left mid) rest → Linked S More found all ts rest
  one_more found all x ts mid rest s k l =
      record { first = x; others = l.first ∷ l.others; middle = mid; is = l.is ∙ append_assoc found (x ∷ []) (l.first ∷ l.others); head = s; tail = j.more l.first l.others mid (left mid) l.middle rest k l.head l.tail }

  last_one : (found : List A) (x : A) (ts mid : List Terminal) → S x ts mid → left mid ≡ mid → Linked S More found (found ++ x ∷ []) ts (left mid)
  last_one found x ts mid s e =
      subst (λ m. Linked S More found (found ++ x ∷ []) ts m) (sym e) (record { first = x; others = []; middle = mid; is = refl; head = s; tail = j.none mid })

  pub links_gives : (n : ℕ) (found : List A) (ts : List Terminal) → IsPlain ts → Gives (links n test left (add p) found ts) (λ all rest. Linked S More found all ts rest × IsPlain rest)
  unfolding links
  links_gives zero found ts pl = record { given = tt }
  links_gives (suc n) found ts pl =
      bind (add_gives p S c found ts pl)
      (λ b mid w.
      choose (test mid) (links n test left (add p) b (left mid)) (Some (b, left mid))
      (λ e. let q = j.joint mid w.2.1 e in weaken (links_gives n b (left mid) q.1) (λ all rest v. (one_more found all w.0 ts mid rest w.2.0 q.0 (subst (λ z. Linked S More z all (left mid) rest) w.1 v.0), v.1)))
      (λ e. record { given = (subst (λ z. Linked S More found z ts (left mid)) (sym w.1) (last_one found w.0 ts mid w.2.0 (j.same mid e)), subst IsPlain (sym (j.same mid e)) w.2.1) }))

-- ---- commas

-- further ones, each after a comma
pub more_joins : {A : Type 0} (S : A → Spelling) → Joins S (AreMore S) (IsA symbol.Comma) (starts symbol.Comma) (after symbol.Comma)
more_joins S =
    record {
      none = λ ts. refl;
      more = λ x xs ts mid next rest a b c. (mid, a, (next, b, c));
      joint = after_found symbol.Comma;
      same = after_not symbol.Comma;
    }

commas_link : {A : Type 0} (S : A → Spelling) (all : List A) (ts rest : List Terminal) → Linked S (AreMore S) [] all ts rest → AreListed S all ts rest
commas_link S all ts rest l = subst (λ xs. AreListed S xs ts rest) (sym l.is) (l.middle, l.head, l.tail)

-- one or more, with commas between them
pub listed_gives : {A : Type 0} {S : A → Spelling} (p : Parser A) → Sound p S → Sound (listed p) (AreListed S)
unfolding listed commas
listed_gives {S} p c ts pl =
    weaken (links_gives p S (AreMore S) (IsA symbol.Comma) (starts symbol.Comma) (after symbol.Comma) c (more_joins S) (length ts) [] ts pl)
    (λ all rest w. (commas_link S all ts rest w.0, w.1))

-- no comma follows the last one
links_ended : {A : Type 0} (p : Parser A) (n : ℕ) (found : List A) (ts : List Terminal)
    → Gives (links n (starts symbol.Comma) (after symbol.Comma) (add p) found ts) (λ all rest. starts symbol.Comma rest ≡ false)
unfolding links
links_ended p zero found ts = record { given = tt }
links_ended p (suc n) found ts =
    bind (anything (add p found ts))
    (λ b mid w. choose (starts symbol.Comma mid) (links n (starts symbol.Comma) (after symbol.Comma) (add p) b (after symbol.Comma mid)) (Some (b, after symbol.Comma mid))
    (λ e. links_ended p n b (after symbol.Comma mid))
    (λ e. record { given = subst (λ x. starts symbol.Comma x ≡ false) (sym (after_not symbol.Comma mid e)) e }))

pub listed_ended : {A : Type 0} (p : Parser A) (ts : List Terminal) → Gives (listed p ts) (λ all rest. starts symbol.Comma rest ≡ false)
unfolding listed commas
listed_ended p ts = links_ended p (length ts) [] ts

-- ---- before a token

-- some that were read after what was found before
pub record Found {A : Type 0} (S : A → Spelling) (found all : List A) (ts rest : List Terminal) : Type 0 where
  pub new : List A
  pub is : all ≡ found ++ new
  pub spelled : AreAll S new ts rest

none_found : {A : Type 0} (S : A → Spelling) (found : List A) (ts : List Terminal) → Found S found found ts ts
none_found S found ts = record { new = []; is = sym (append-nil found); spelled = refl }

one_found : {A : Type 0} (S : A → Spelling) (found all : List A) (x : A) (ts mid rest : List Terminal) → S x ts mid → Found S (found ++ x ∷ []) all mid rest → Found S found all ts rest
one_found S found all x ts mid rest s f =
    record { new = x ∷ f.new; is = f.is ∙ append_assoc found (x ∷ []) f.new; spelled = (mid, s, f.spelled) }

module _ {A : Type 0} (p : Parser A) (S : A → Spelling) (c : Sound p S) where
  until_found : (s : Symbol) (n : ℕ) (found : List A) (ts : List Terminal) → IsPlain ts → Gives (until_in n s p found ts) (λ all rest. Found S found all ts rest × IsPlain rest)
  unfolding until_in
  until_found s zero found ts pl = record { given = (none_found S found ts, pl) }
  until_found s (suc n) found ts pl =
      choose (starts s ts) (Some (found, ts)) (and_then (add p found ts) (until_in n s p))
      (λ e. record { given = (none_found S found ts, pl) })
      (λ e. bind (add_gives p S c found ts pl)
      (λ b mid w. weaken (until_found s n b mid w.2.1) (λ all rest v. (one_found S found all w.0 ts mid rest w.2.0 (subst (λ z. Found S z all mid rest) w.1 v.0), v.1))))

  turns_found : (test : List Terminal → Bool) (n : ℕ) (found : List A) (ts : List Terminal) → IsPlain ts → Gives (turns n test (add p) found ts) (λ all rest. Found S found all ts rest × IsPlain rest)
  unfolding turns
  turns_found test zero found ts pl = record { given = (none_found S found ts, pl) }
  turns_found test (suc n) found ts pl =
      choose (test ts) (and_then (add p found ts) (turns n test (add p))) (Some (found, ts))
      (λ e. bind (add_gives p S c found ts pl)
      (λ b mid w. weaken (turns_found test n b mid w.2.1) (λ all rest v. (one_found S found all w.0 ts mid rest w.2.0 (subst (λ z. Found S z all mid rest) w.1 v.0), v.1))))
      (λ e. record { given = (none_found S found ts, pl) })

  all_found : (all : List A) (ts rest : List Terminal) → Found S [] all ts rest → AreAll S all ts rest
  all_found all ts rest f = subst (λ xs. AreAll S xs ts rest) (sym f.is) f.spelled

  -- all before a token
  pub until_gives : (s : Symbol) → Sound (until s p) (AreAll S)
  unfolding until
  until_gives s ts pl = weaken (until_found s (length ts) [] ts pl) (λ all rest w. (all_found all ts rest w.0, w.1))

  -- as many as a test lets through
  pub repeat_gives : (test : List Terminal → Bool) → Sound (repeat test (add p) []) (AreAll S)
  unfolding repeat
  repeat_gives test ts pl = weaken (turns_found test (length ts) [] ts pl) (λ all rest w. (all_found all ts rest w.0, w.1))
