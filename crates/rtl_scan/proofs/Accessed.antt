-- What processes access, one after another.
use Rattle.std.proofs.Common.{ℕ, zero, suc, ◌≡◌, ◌∙◌, ◌+◌, ◌<◌, true, map, get_or, List, [], ◌∷◌, ◌++◌, length, Some, refl, sym, subst, arith}
use Rattle.std.specs.Prelude.{◌↔◌}
use Rattle.std.specs.List.{slice_get}
use Rattle.std.specs.Option.{IsSomeAnd}
use Rattle.rtl_flat.specs.declared.signal.Signal.{Signal}
use Rattle.rtl_flat.specs.declared.act.Process.{Process}
use Rattle.rtl_flat.specs.Signs.{width_in}
use Rattle.rtl_flat.specs.Flows.{flow_of}
use Rattle.rtl_flat.specs.Process.{task, doing}
use Rattle.rtl_flat.specs.Paths.{BitSet, Flow, MayWrite, ReadsOutside, may_write, reads_outside}
use Rattle.rtl_flat.specs.PathSets.{Lists, OfProcess, listed}
use Rattle.rtl_flat.proofs.Paths.{decided}
use Rattle.rtl_scan.specs.declared.bits.Bits.{Bits}
use Rattle.rtl_scan.specs.declared.usages.Access.{Access}
use Rattle.rtl_scan.specs.Accesses.{AreBits, AreOfEach, HasBits, IsAccess}
use Rattle.rtl_scan.specs.Sets.{has_rows}
use Rattle.rtl_scan.proofs.Processes.{exact, task_at}

pushed_length : {X : Type 0} (xs : List X) (y : X) → length (xs ++ y ∷ []) ≡ length xs + 1
pushed_length [] y = refl
pushed_length (x ∷ xs) y =
    let others = pushed_length xs y in omega (arith, others)

each_pushed : {X : Type 0} (P : ℕ → X → Type 0) (xs : List X) (y : X) → ((p : ℕ) (x : X) → slice_get xs p ≡ Some x → P p x) → P (length xs) y → (p : ℕ) (x : X) → slice_get (xs ++ y ∷ []) p ≡ Some x → P p x
each_pushed P [] y each last zero x there =
    let same : y ≡ x = cc in subst (P 0) same last
each_pushed P [] y each last (suc p) x there = absurd (cc)
each_pushed P (z ∷ xs) y each last zero x there = each zero x there
each_pushed P (z ∷ xs) y each last (suc p) x there =
    each_pushed (λ q. P (suc q)) xs y (λ q. each (suc q)) last p x there

-- the bits of no process
pub none_of : (P : ℕ → ℕ → ℕ → Type 0) (sets : List Bits) → sets ≡ [] → AreOfEach P 0 sets
none_of P sets is =
    subst (AreOfEach P 0) (sym is) (record { many = refl; each = λ p found there. absurd (cc) })

-- those of one process more
pub of_next : (P : ℕ → ℕ → ℕ → Type 0) (n : ℕ) (old new : List Bits) (one : Bits) → AreOfEach P n old → AreBits (P n) one → new ≡ old ++ one ∷ [] → AreOfEach P (n + 1) new
of_next P n old new one are is pushed =
    let count = pushed_length old one in
    let last : AreBits (P (length old)) one = subst (λ p. AreBits (P p) one) (sym are.many) is in
    subst (AreOfEach P (n + 1)) (sym pushed)
    (record { many = omega (arith, count, are.many); each = each_pushed (λ p. AreBits (P p)) old one are.each last })

module _ (signals : List Signal) (processes : List Process) (p : ℕ) (one : Process) (inside : p < length processes) (is : one ≡ get_or processes p one) where
  path_bits : (P : Flow → ℕ → ℕ → Type 0) (f : Flow → BitSet) → ((flow : Flow) (s k : ℕ) → f flow s k ≡ true ↔ P flow s k) → (found : Bits) → HasBits (f (flow_of (width_in signals) (doing one.does))) found → AreBits (OfProcess P signals (map task processes) p) found
  path_bits P f decides found has =
      record { bits = exact P f decides signals signals refl processes p one inside is (has_rows found.rows.items) has.same; order = has.order }

  pub read_bits : (access : Access) → IsAccess (width_in signals) (task one) access → AreBits (OfProcess ReadsOutside signals (map task processes) p) access.reads
  read_bits access h =
      path_bits ReadsOutside reads_outside (λ flow s k. (decided flow s k).outside) access.reads h.reads

  pub written_bits : (access : Access) → IsAccess (width_in signals) (task one) access → AreBits (OfProcess MayWrite signals (map task processes) p) access.writes
  written_bits access h =
      path_bits MayWrite may_write (λ flow s k. (decided flow s k).writes) access.writes h.writes

  pub listed_bits : (access : Access) → IsAccess (width_in signals) (task one) access → AreBits (Lists signals (map task processes) p) access.lists
  listed_bits access h =
      let at = task_at processes p one inside is in record {
        bits = λ s k. (
          λ b. subst (λ o. IsSomeAnd o (λ t. listed (width_in signals) t.does s k ≡ true)) (sym at) (sym (h.lists.same s k) ∙ b),
          λ q. h.lists.same s k ∙ subst (λ o. IsSomeAnd o (λ t. listed (width_in signals) t.does s k ≡ true)) at q,
        );
        order = h.lists.order;
      }
