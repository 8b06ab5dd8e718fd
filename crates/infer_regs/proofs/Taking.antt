-- Processes are taken one after another.
use Rattle.std.proofs.Common.{◌≡◌, ◌∙◌, ◌<◌, ◌≤◌, ◌+◌, ℕ, zero, suc, true, false, List, [], ◌∷◌, ◌++◌, length, map, take, Option, None, Some, refl, sym, ap, subst, inl, inr, arith, append-nil}
use Rattle.std.specs.List.{All, cons_option, enumerate_from, filter_map, slice_get}
use Rattle.std.specs.Option.{IsSomeAnd}
use Rattle.std.proofs.lemmas.Bool.{both_ways, cases_eq, false≢true}
use Rattle.std.proofs.lemmas.List.{map-append, take_all}
use Rattle.std.proofs.lemmas.List.Elements.{All-nil, All-push, filter_map-append}
use Rattle.rtl_flat.specs.Process.{Doing, Assign, Comb, Edge', Task}
use Rattle.rtl_rule.specs.declared.rule.Rule.TheVariants.{SeveralDrivers}
use Rattle.rtl_flat.specs.Flats.{Flat}
use Rattle.net_list.proofs.check_found_proofs.Gathering.{take_next}
use Rattle.net_list.proofs.check_found_proofs.Sites.{numbered_push}
use Rattle.rtl_rule.specs.Parts.{is_clocked}
use Rattle.net_list.specs.declared.clocked.Clocked.{Clocked}
use Rattle.net_list.specs.Chosen.{AreClocked, IsClocked, number_of}
use Rattle.net_list.specs.Failing.{IsLeast}
use Rattle.net_list.specs.Faults.{AreFormed, HasFault, IsShapeless}
use Rattle.infer_regs.specs.Taken.{AreTaken, IsBroken, Takes, numbers_below}
use Rattle.infer_regs.proofs.Faults.{fault_of, has_fault, no_rule, waits_of}

-- ---- numbers

number_at : (tasks : List Task) (n : ℕ) (task : Task) → slice_get tasks n ≡ Some task → 0 + length (take n tasks) ≡ n
number_at [] n task there = absurd (cc)
number_at (x ∷ tasks) zero task there = refl
number_at (x ∷ tasks) (suc n) task there =
    let before = number_at tasks n task there in omega (arith, before)

numbers_next : (d : Flat) (n : ℕ) (task : Task) → slice_get d.tasks n ≡ Some task → numbers_below d (n + 1) ≡ numbers_below d n ++ cons_option (number_of n task.does) []
numbers_next d n task there =
    let f : (ℕ × Task) → Option ℕ = λ one. number_of one.0 one.1.does in
    ap (λ ts. filter_map f (enumerate_from 0 ts)) (take_next d.tasks n task there)
    ∙ ap (filter_map f) (numbered_push 0 (take n d.tasks) task)
    ∙ filter_map-append f (enumerate_from 0 (take n d.tasks)) ((0 + length (take n d.tasks), task) ∷ [])
    ∙ ap (λ k. numbers_below d n ++ cons_option (number_of k task.does) []) (number_at d.tasks n task there)

number_some : (n : ℕ) (does : Doing) → is_clocked does ≡ true → number_of n does ≡ Some n
number_some n (Assign target value) h = absurd (false≢true h)
number_some n (Comb list body) h = absurd (false≢true h)
number_some n (Edge' events body) h = refl

number_none : (n : ℕ) (does : Doing) → is_clocked does ≡ false → number_of n does ≡ None
number_none n (Assign target value) h = refl
number_none n (Comb list body) h = refl
number_none n (Edge' events body) h = absurd (false≢true (sym h))

-- ---- steps

pub taken_none : (d : Flat) (clocked : List Clocked) → clocked ≡ [] → AreTaken d 0 clocked
taken_none d clocked none =
    subst (AreTaken d 0) (sym none) (record { numbers = refl; each = All-nil (IsClocked d); formed = λ p below h. absurd (omega (arith, below)) })

module _ (d : Flat) (n : ℕ) (task : Task) (there : slice_get d.tasks n ≡ Some task) where
  formed_next : ((p : ℕ) → p < n → IsShapeless d p → ⊥) → (IsShapeless d n → ⊥) → (p : ℕ) → p < n + 1 → IsShapeless d p → ⊥
  formed_next before here p below h =
      elim (cases_eq p n) [
        | inl same ↦ here (subst (IsShapeless d) same h)
        | inr other ↦ before p (omega (arith, below, other)) h
      ]

  pub taken_more : (old new : List Clocked) → AreTaken d n old → is_clocked task.does ≡ true → Takes d n true old new → (HasFault d n SeveralDrivers → ⊥) → AreTaken d (n + 1) new
  taken_more old new are waits (one, added, is) single =
      record {
        numbers =
            ap (map (λ (c : Clocked). c.process.0)) added
            ∙ map-append (λ (c : Clocked). c.process.0) old (one ∷ [])
            ∙ ap (λ ns. ns ++ one.process.0 ∷ []) are.numbers
            ∙ ap (λ k. numbers_below d n ++ k ∷ []) is.process
            ∙ sym (numbers_next d n task there ∙ ap (λ o. numbers_below d n ++ cons_option o []) (number_some n task.does waits));
        each = subst (All (IsClocked d)) (sym added) (All-push (IsClocked d) old one are.each is.clocked);
        formed = formed_next are.formed (λ h. no_rule d n task (is.whole task there) (λ fault. single (has_fault d n task there SeveralDrivers fault)) h.rule (fault_of d n task there h.rule h.fault));
      }

  pub taken_pass : (old : List Clocked) → AreTaken d n old → is_clocked task.does ≡ false → AreTaken d (n + 1) old
  taken_pass old are flows =
      record {
        numbers =
            are.numbers
            ∙ sym (numbers_next d n task there ∙ ap (λ o. numbers_below d n ++ cons_option o []) (number_none n task.does flows) ∙ append-nil (numbers_below d n));
        each = are.each;
        formed = formed_next are.formed (λ h. both_ways (is_clocked task.does) flows (waits_of d n task there h.waits));
      }

  -- a process with a fault is the least one
  pub least_at : (old : List Clocked) → AreTaken d n old → is_clocked task.does ≡ true → IsBroken d n → IsLeast (IsShapeless d) n
  least_at old are waits (rule, fault) =
      record {
        holds = record { waits = subst (λ o. IsSomeAnd o (λ one. is_clocked one.does ≡ true)) (sym there) waits; rule = rule; fault = fault };
        none_below = are.formed;
      }

-- ---- the end

there_below : {A : Type 0} (xs : List A) (p : ℕ) (P : A → Type 0) → IsSomeAnd (slice_get xs p) P → p < length xs
there_below [] p P h = absurd h
there_below (x ∷ xs) zero P h = omega arith
there_below (x ∷ xs) (suc p) P h = let below = there_below xs p P h in omega (arith, below)

module _ (d : Flat) (n : ℕ) (clocked : List Clocked) (are : AreTaken d n clocked) (past : length d.tasks ≤ n) where
  pub all_formed : AreFormed d
  all_formed p h =
      let below = there_below d.tasks p (λ one. is_clocked one.does ≡ true) h.waits in
      are.formed p (omega (arith, below, past)) h

  pub all_clocked : AreClocked d clocked
  all_clocked =
      record {
        numbers = are.numbers ∙ ap (λ ts. filter_map (λ (one : ℕ × Task). number_of one.0 one.1.does) (enumerate_from 0 ts)) (take_all n d.tasks past);
        each = are.each;
      }
