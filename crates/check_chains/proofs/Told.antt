-- Findings at processes, one process after another.
use Rattle.std.proofs.Common.{◌≡◌, ◌∙◌, ◌<◌, ◌+◌, ℕ, zero, suc, Bool, true, false, if◌then◌else◌, List, [], ◌∷◌, ◌++◌, length, get_or, Some, refl, sym, subst, arith}
use Rattle.std.specs.Prelude.{◌↔◌}
use Rattle.std.specs.List.{slice_get}
use Rattle.std.proofs.lemmas.Bool.{false≢true}
use Rattle.std.proofs.lemmas.List.{append-nil}
use Rattle.rtl_flat.specs.declared.act.Process.{Process}
use Rattle.rtl_flat.specs.declared.design.Design.{Design}
use Rattle.rtl_flat.specs.Process.{Doing, Task, doing, task}
use Rattle.rtl_rule.specs.declared.finding.Finding.{Finding}
use Rattle.rtl_rule.specs.declared.rule.Rule.{Rule}
use Rattle.rtl_rule.specs.Parts.{At, first_written, found, within}
use Rattle.rtl_flat.specs.Flats.{Flat, flat}
use Rattle.rtl_rule.specs.Sites.{AreFindings}
use Rattle.check_found.specs.Gathered.{Gets, sites_below, task_sites}
use Rattle.check_found.proofs.Gathering.{gets_nothing, gets_one}
use Rattle.check_found.proofs.Sites.{next_below, task_at, task_count}
use Rattle.check_chains.specs.Inner.{finding_of, itself}

module _ (d : Flat) (P : At Doing → Type 0) (rule : Rule) where
  abbrev pub finding_at : At Doing → Finding
  finding_at site = found rule site (first_written d site)

  told : (n : ℕ) (t : Task) (broken : Bool) → broken ≡ true ↔ P (within (n, t) t.does) → (old new : List Finding) → new ≡ old ++ (if broken then finding_of d rule n t ∷ [] else []) → Gets P finding_at (task_sites itself n t) old new
  told n t true decides old new added =
      subst (Gets P finding_at (task_sites itself n t) old) (sym added)
      (gets_one P finding_at old (within (n, t) t.does) (decides.0 refl))
  told n t false decides old new added =
      subst (Gets P finding_at (task_sites itself n t) old) (sym (added ∙ append-nil old))
      (gets_nothing P finding_at old (within (n, t) t.does) (λ holds. false≢true (decides.1 holds)))

-- the findings of one process more
pub next_told : (design : Design) (P : At Doing → Type 0) (rule : Rule) (n : ℕ) (x : Process) → n < length design.processes.items → x ≡ get_or design.processes.items n x → (broken : Bool) → broken ≡ true ↔ P (within (n, task x) (doing x.does)) → (old new : List Finding) → ((t : Task) → slice_get (flat design).tasks n ≡ Some t → new ≡ old ++ (if broken then finding_of (flat design) rule n t ∷ [] else [])) → AreFindings P (finding_at (flat design) P rule) (sites_below itself (flat design) n) old → AreFindings P (finding_at (flat design) P rule) (sites_below itself (flat design) (n + 1)) new
next_told design P rule n x below is broken decides old new added h =
    let d = flat design in
    let there = task_at design n x below is in
    next_below P (finding_at d P rule) itself d n (task x) old new there h
    (told d P rule n (task x) broken decides old new (added (task x) there))

pub same_truth : (a b : Bool) → a ≡ b → a ≡ true ↔ b ≡ true
same_truth a b e = (λ h. sym e ∙ h, λ h. e ∙ h)

there : {A : Type 0} (xs : List A) (n : ℕ) → n < length xs → (x : A) × (slice_get xs n ≡ Some x)
there [] n below = absurd (omega (arith, below))
there (x ∷ xs) zero below = (x, refl)
there (x ∷ xs) (suc n) below = there xs n (omega (arith, below))

-- the same where the process isn't looked at
pub next_there : (design : Design) (P : At Doing → Type 0) (rule : Rule) (n : ℕ) → n < length design.processes.items → (broken : Bool) → ((t : Task) → slice_get (flat design).tasks n ≡ Some t → broken ≡ true ↔ P (within (n, t) t.does)) → (old new : List Finding) → ((t : Task) → slice_get (flat design).tasks n ≡ Some t → new ≡ old ++ (if broken then finding_of (flat design) rule n t ∷ [] else [])) → AreFindings P (finding_at (flat design) P rule) (sites_below itself (flat design) n) old → AreFindings P (finding_at (flat design) P rule) (sites_below itself (flat design) (n + 1)) new
next_there design P rule n below broken decides old new added h =
    let d = flat design in
    let (t, is) = there d.tasks n (omega (arith, below, task_count design)) in
    next_below P (finding_at d P rule) itself d n t old new is h
    (told d P rule n t broken (decides t is) old new (added t is))
