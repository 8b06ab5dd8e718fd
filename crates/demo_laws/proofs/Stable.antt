-- Bits that are not different are the same, and a test decides finitely many questions without a doubt.
use Rattle.std.proofs.Common.{◌≡◌, ◌∙◌, ◌<◌, ℕ, zero, suc, Bool, true, false, List, length, get_or, refl, sym, ap, subst, inl, inr, arith}
use Rattle.std.proofs.lemmas.Bool.{cases_Bool, cases_eq, false≢true}
use Rattle.std.proofs.lemmas.List.{ext_get_or}
use Rattle.rtl_bits.specs.declared.Bit.{Bit}
use Rattle.rtl_bits.specs.declared.Bit.TheVariants.{Zero, One, X, Z}
use Rattle.rtl_bits.specs.Bits.{same_bit}
use Rattle.event_model.specs.Writes.{put}
use Rattle.demo_clean.proofs.event_laws_proofs.Lengths.{put_at, put_other}
use Rattle.demo_clean.proofs.event_laws_proofs.Unheard.{same_bits}

abbrev pub NotNot : Type 0 → Type 0
NotNot A = (A → ⊥) → ⊥

bit_self : (b : Bit) → same_bit b b ≡ true
bit_self Zero = refl
bit_self One = refl
bit_self X = refl
bit_self Z = refl

pub bit_stable : (a b : Bit) → NotNot (a ≡ b) → a ≡ b
bit_stable a b h =
    elim (cases_Bool (same_bit a b)) [
      | inl is ↦ same_bits a b is
      | inr none ↦ absurd (h (λ same. false≢true (sym none ∙ (ap (same_bit a) (sym same) ∙ bit_self a))))
    ]

pub list_stable : (xs ys : List Bit) → NotNot (xs ≡ ys) → xs ≡ ys
list_stable xs ys h =
    elim (cases_eq (length xs) (length ys)) [
      | inl long ↦ ext_get_or X xs ys long (λ k below. bit_stable (get_or xs k X) (get_or ys k X) (λ other. h (λ same. other (ap (λ l. get_or l k X) same))))
      | inr other ↦ absurd (h (λ same. other (ap length same)))
    ]

-- a test of the numbers below a limit that decides a question
pub record Decides (Q : ℕ → Type 0) (m : ℕ) : Type 0 where
  pub test : ℕ → Bool
  pub holds : (p : ℕ) → p < m → test p ≡ true → Q p
  pub fails : (p : ℕ) → p < m → test p ≡ false → Q p → ⊥

one_more : (Q : ℕ → Type 0) (m : ℕ) (d : Decides Q m) (b : Bool) → (b ≡ true → Q m) → (b ≡ false → Q m → ⊥) → Decides Q (suc m)
one_more Q m d b holds fails =
    record {
      test = put d.test m b;
      holds = λ p below is. elim (cases_eq p m) as (λ _. Q p) [
        | inl same ↦ subst Q (sym same) (holds (sym (put_at d.test m p b same) ∙ is))
        | inr other ↦ d.holds p (omega (arith, below, other)) (sym (put_other d.test m p b other) ∙ is)
      ];
      fails = λ p below is q. elim (cases_eq p m) as (λ _. ⊥) [
        | inl same ↦ fails (sym (put_at d.test m p b same) ∙ is) (subst Q same q)
        | inr other ↦ d.fails p (omega (arith, below, other)) (sym (put_other d.test m p b other) ∙ is) q
      ];
    }

pub decided : (Q : ℕ → Type 0) (m : ℕ) → NotNot (Decides Q m)
decided Q zero none =
    none (record { test = λ p. false; holds = λ p below is. absurd (omega (arith, below)); fails = λ p below is q. absurd (omega (arith, below)) })
decided Q (suc m) none =
    decided Q m (λ d.
    let without : Q m → ⊥ = λ q. none (one_more Q m d true (λ _. q) (λ e. absurd (false≢true (sym e)))) in
    none (one_more Q m d false (λ e. absurd (false≢true e)) (λ _. without)))
