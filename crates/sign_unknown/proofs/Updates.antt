-- What nonblocking updates make of a bit, where what is made may be what another run makes.
use Rattle.std.proofs.Common.{◌≡◌, ◌∙◌, ◌-◌, ℕ, Bool, true, false, if◌then◌else◌, List, [], ◌∷◌, get_or, refl, sym, subst}
use Rattle.std.proofs.Math.Bool.{or-false}
use Rattle.rtl_bits.specs.declared.Bit.{Bit}
use Rattle.rtl_bits.specs.declared.Bit.TheVariants.{X}
use Rattle.event_model.specs.Bodies.{Made, Now, Later}
use Rattle.event_model.specs.Traces.{covers}
use Rattle.event_model.specs.Writes.{Write}
use Rattle.net_covers.specs.event_covers.Covers.{MadeMayBe, MayBe, WriteMayBe, WritesMayBe}
use Rattle.net_covers.proofs.event_covers_proofs.MayBe.{at_may}
use Rattle.net_covers.proofs.event_covers_proofs.Writes.{same_now}
use Rattle.sign_cycles.specs.event_edges.Registers.{update_bit, updates_bit, write_bit}
use Rattle.sign_cycles.specs.net_rest.event_runs.Effects.{laters}

-- a choice of bits may be the same choice of others
pub if_may : (c : Bool) (x y b e : Bit) → MayBe x b → MayBe y e → MayBe (if c then x else y) (if c then b else e)
if_may true x y b e left right = left
if_may false x y b e left right = right

module _ (i k : ℕ) where
  -- writes that may be one another are over the same bits
  same_covers : (w z : Write) → WriteMayBe w z → covers i k w ≡ covers i k z
  same_covers w z is =
      sym (or-false (covers i k w)) ∙ same_now i k (Now w ∷ []) (Now z ∷ []) (is, tt) ∙ or-false (covers i k z)

  one_may : (w z : Write) (x b : Bit) → WriteMayBe w z → MayBe x b → MayBe (write_bit i k x w) (write_bit i k b z)
  one_may w z x b is may =
      subst (λ (c : Bool). MayBe (write_bit i k x w) (if c then get_or z.bits (k - z.at) X else b)) (same_covers w z is)
      (if_may (covers i k w) (get_or w.bits (k - w.at) X) x (get_or z.bits (k - z.at) X) b
      (subst (λ (n : ℕ). MayBe (get_or w.bits (k - w.at) X) (get_or z.bits (k - n) X)) is.at (at_may w.bits z.bits is.bits (k - w.at))) may)

  all_may : (ws zs : List Write) (x b : Bit) → WritesMayBe ws zs → MayBe x b → MayBe (update_bit i k ws x) (update_bit i k zs b)
  all_may [] [] x b is may = may
  all_may [] (z ∷ zs) x b is may = absurd is
  all_may (w ∷ ws) [] x b is may = absurd is
  all_may (w ∷ ws) (z ∷ zs) x b is may =
      all_may ws zs (write_bit i k x w) (write_bit i k b z) is.1 (one_may w z x b is.0 may)

  pub updates_may :
      (ms ns : List Made) (x b : Bit) → MadeMayBe ms ns → MayBe x b → MayBe (updates_bit i k (laters ms) x) (updates_bit i k (laters ns) b)
  updates_may [] [] x b is may = may
  updates_may [] (Now z ∷ ns) x b is may = absurd is
  updates_may [] (Later zs ∷ ns) x b is may = absurd is
  updates_may (Now w ∷ ms) [] x b is may = absurd is
  updates_may (Now w ∷ ms) (Now z ∷ ns) x b is may = updates_may ms ns x b is.1 may
  updates_may (Now w ∷ ms) (Later zs ∷ ns) x b is may = absurd is.0
  updates_may (Later ws ∷ ms) [] x b is may = absurd is
  updates_may (Later ws ∷ ms) (Now z ∷ ns) x b is may = absurd is.0
  updates_may (Later ws ∷ ms) (Later zs ∷ ns) x b is may =
      updates_may ms ns (update_bit i k ws x) (update_bit i k zs b) is.1 (all_may ws zs x b is.0 may)

  -- the same updates of a bit that may be another
  update_old : (us : List Write) (x b : Bit) → MayBe x b → MayBe (update_bit i k us x) (update_bit i k us b)
  update_old [] x b may = may
  update_old (w ∷ us) x b may =
      update_old us (write_bit i k x w) (write_bit i k b w)
      (if_may (covers i k w) (get_or w.bits (k - w.at) X) x (get_or w.bits (k - w.at) X) b (λ known. refl) may)

  pub updates_old : (all : List (List Write)) (x b : Bit) → MayBe x b → MayBe (updates_bit i k all x) (updates_bit i k all b)
  updates_old [] x b may = may
  updates_old (us ∷ all) x b may =
      updates_old all (update_bit i k us x) (update_bit i k us b) (update_old us x b may)
