-- What literals, names and selects without faults have.
use Rattle.std.specs.Prelude.{ℕ, ◌+◌, ◌<◌, ◌≤◌, max, min, ℤ, pos, negsuc, ◌-ℤ◌, int_le, int_lt, unsigned_abs, true, false, ◌&&◌, List, [], length, Option, None, Some, Ok, Err}
use Rattle.std.proofs.Common.{◌≡◌, ◌∙◌, ap, sym, refl, arith, inl, inr}
use Rattle.std.proofs.lemmas.Bool.{cases_Bool}
use Rattle.std.proofs.lemmas.Bool.Decides.{nat_tests}
use Rattle.std.proofs.lemmas.Int.{ints}
use Rattle.rtl_bits.specs.Bits.{bits_of}
use Rattle.rtl_bits.specs.Inside.{length-tabulate}
use Rattle.rtl_const.specs.Constant.{Outcome}
use Rattle.rtl_tree.specs.declared.literal.Literal.{Literal}
use Rattle.text_ground.specs.declared.text.Spot.{Spot}
use Rattle.rtl_tree.specs.declared.tree.operators.PartKind.{PartKind}
use Rattle.rtl_tree.specs.declared.tree.operators.PartKind.TheVariants.{Between, Up, Down}
use Rattle.rtl_tree.specs.TreeExpr.{Formula, Identifier}
use Rattle.rtl_flat.specs.declared.signal.Signal.{Signal}
use Rattle.rtl_flat.specs.Expression.{Sized}
use Rattle.rtl_flat.specs.Expression as tree
use Rattle.rtl_flat.specs.Sizing.{literal_at, sized, own_width, own_sign}
use Rattle.rtl_flat.specs.Sizing as sizing
use Rattle.elab_scope.specs.declared.known.Known.{Known}
use Rattle.elab_scope.specs.declared.known.Known.TheVariants as known
use Rattle.elab_scope.specs.declared.known.Shape.{Shape}
use Rattle.elab_scope.specs.declared.widths.Breadth.TheVariants.{Bits}
use Rattle.elab_scope.specs.declared.widths.Field.{Field}
use Rattle.elab_scope.specs.Names.{Meanings}
use Rattle.elab_scope.specs.Own.{sign, name_breadth, name_sign, part_breadth, field_breadth}
use Rattle.elab_scope.specs.Rules.{width_faults, read_faults, select_faults, number_faults, part_faults, missing}
use Rattle.elab_scope.specs.Selects.{msb_of, lsb_of}
use Rattle.elab_scope.specs.Sources.{IsDescribed, source, name_source, bit_source, part_source}
use Rattle.elab_scope.specs.Trees.{tree_of, own_context, literal_bits, named_form, pattern, signal_of, low_of, field_in, bit_form, part_form}
use Rattle.elab_scope.specs.Widths.{fitted, bits, field}
use Rattle.elab_scope.proofs.Fitting.{no_cons, fits, fitted_is}
use Rattle.elab_scope.proofs.Sound.{Sound, IsSound, own_tree}

clamped : (n : ℕ) → 1 ≤ n → n ≤ 128 → min (max n 1) 128 ≡ n
clamped n low high = omega arith

bits_fitted : (n : ℕ) → 1 ≤ n → n ≤ 128 → bits (fitted n) ≡ n
bits_fitted n low high = ap bits (fitted_is n low high) ∙ clamped n low high

length-literal : (l : Literal) → 1 ≤ l.width → l.width ≤ 128 → length (literal_bits l) ≡ l.width
length-literal l low high = length-tabulate (bits (fitted l.width)) _ ∙ bits_fitted l.width low high

length-named : (n p : ℕ) → 1 ≤ n → n ≤ 128 → length (bits_of (bits (fitted n)) p) ≡ n
length-named n p low high = length-tabulate (bits (fitted n)) _ ∙ bits_fitted n low high

length-bits : (n p : ℕ) → length (bits_of n p) ≡ n
length-bits n p = length-tabulate n _

pub number : (ss : List Signal) (spot : Spot) (at : ℕ) (l : Literal) → width_faults at (fitted l.width) ≡ [] → Sound ss (fitted l.width) l.signed (λ c. Sized c.width c.signed spot (tree.Literal (literal_at c.width c.signed l.sized (literal_bits l)))) (sizing.Number spot (literal_bits l) l.signed l.sized)
number ss spot at l h =
    let fit : (1 ≤ l.width) × (l.width ≤ 128) = fits at l.width h in
    let long : length (literal_bits l) ≡ l.width = length-literal l fit.0 fit.1 in
    record {
      lawful = omega (arith, long, fit.0);
      width = fitted_is l.width fit.0 fit.1 ∙ ap Bits (sym long);
      some = omega (arith, long, fit.0);
      small = omega (arith, long, fit.1);
      sign = refl;
      tree = λ c. refl;
    }

pub name : (base : ℕ) (ss : List Signal) (spot : Spot) (id : Identifier) (k : Option Known) → IsDescribed base ss k → read_faults id k ≡ [] → Sound ss (name_breadth k) (name_sign k) (λ c. Sized c.width c.signed spot (named_form base k c.width c.signed)) (name_source spot base k)
name base ss spot id None d h = absurd (no_cons _ _ h)
name base ss spot id (Some (known.Integer None)) d h = absurd (no_cons _ _ h)
name base ss spot id (Some (known.Integer (Some n))) d h =
    let long : length (bits_of 32 (pattern (Some n))) ≡ 32 = length-bits 32 (pattern (Some n)) in
    record {
      lawful = omega (arith, long);
      width = ap Bits (sym long);
      some = omega (arith, long);
      small = omega (arith, long);
      sign = refl;
      tree = λ c. refl;
    }
name base ss spot id (Some (known.Parameter n width signed)) d h =
    let long : length (bits_of (bits (fitted width)) (pattern n)) ≡ width = length-named width (pattern n) d.0 d.1 in
    record {
      lawful = omega (arith, long, d.0);
      width = fitted_is width d.0 d.1 ∙ ap Bits (sym long);
      some = omega (arith, long, d.0);
      small = omega (arith, long, d.1);
      sign = refl;
      tree = λ c. refl;
    }
name base ss spot id (Some (known.Signal n role None)) d h = absurd d
name base ss spot id (Some (known.Signal n role (Some shape))) d h =
    record {
      lawful = d.0;
      width = fitted_is shape.width d.4 d.5 ∙ ap Bits (sym d.1);
      some = omega (arith, d.1, d.4);
      small = omega (arith, d.1, d.5);
      sign = sym d.2;
      tree = λ c. refl;
    }

pub bit : (file base : ℕ) (scope : Meanings) (ss : List Signal) (spot : Spot) (id : Identifier) (k : Option Known) (o : Outcome) (e : Formula) → IsDescribed base ss k → select_faults id k ≡ [] → IsSound file base scope ss e → Sound ss (Bits 1) false (λ c. Sized c.width c.signed spot (bit_form (signal_of base k) (low_of k) o (sign scope e) (tree_of file base scope e (own_context scope e)))) (bit_source spot (signal_of base k) o (source file base scope e))
bit file base scope ss spot id None o e d h i = absurd (no_cons _ _ h)
bit file base scope ss spot id (Some (known.Integer None)) o e d h i = absurd (no_cons _ _ h)
bit file base scope ss spot id (Some (known.Integer (Some n))) o e d h i = absurd (no_cons _ _ h)
bit file base scope ss spot id (Some (known.Parameter n width signed)) o e d h i = absurd (no_cons _ _ h)
bit file base scope ss spot id (Some (known.Signal n role None)) o e d h i = absurd d
bit file base scope ss spot id (Some (known.Signal n role (Some shape))) (Ok index) e d h i =
    record {
      lawful = d.0;
      width = refl;
      some = omega arith;
      small = omega arith;
      sign = refl;
      tree = λ c. ap (λ low. Sized c.width c.signed spot (tree.BitAt (base + n) low index)) (sym d.3);
    }
bit file base scope ss spot id (Some (known.Signal n role (Some shape))) (Err fault) e d h i =
    let width = own_width ss (source file base scope e) in
    let signed = own_sign ss (source file base scope e) in
    record {
      lawful = (d.0, i.lawful, i.small);
      width = refl;
      some = omega arith;
      small = omega arith;
      sign = refl;
      tree = λ c.
          ap (λ low. Sized c.width c.signed spot (tree.BitBy (base + n) low (sign scope e) (tree_of file base scope e (own_context scope e)))) (sym d.3)
          ∙ ap (λ s. Sized c.width c.signed spot (tree.BitBy (base + n) (sizing.low_in ss (base + n)) s (tree_of file base scope e (own_context scope e)))) i.sign
          ∙ ap (λ t. Sized c.width c.signed spot (tree.BitBy (base + n) (sizing.low_in ss (base + n)) signed t)) (own_tree file base scope ss e i);
    }

abbrev field_at : Shape → ℤ → ℤ → Field
field_at shape msb lsb =
    record { low = unsigned_abs (lsb -ℤ pos shape.low); width = unsigned_abs (msb -ℤ lsb) + 1 }

-- what a part-select's tests say
inside_at : (low width : ℕ) (msb lsb : ℤ) → (int_le (pos low) lsb && int_le lsb msb && int_lt msb (pos (low + width))) ≡ true → unsigned_abs (lsb -ℤ pos low) + (unsigned_abs (msb -ℤ lsb) + 1) ≤ width
inside_at low width (pos m) (pos l) h = grind (arith, ints, nat_tests)
inside_at low width (pos m) (negsuc l) h = grind (arith, ints, nat_tests)
inside_at low width (negsuc m) (pos l) h = grind (arith, ints, nat_tests)
inside_at low width (negsuc m) (negsuc l) h = grind (arith, ints, nat_tests)

none_some : (f : Field) → None ≡ Some f → ⊥
none_some f h = cc

made : (shape : Shape) (msb lsb : ℤ) (f : Field) → (int_le (pos shape.low) lsb && int_le lsb msb && int_lt msb (pos (shape.low + shape.width))) ≡ true → Some (field_at shape msb lsb) ≡ Some f → (1 ≤ f.width) × (f.low + f.width ≤ shape.width)
made shape msb lsb f h is =
    let same : field_at shape msb lsb ≡ f = cc in
    let low : unsigned_abs (lsb -ℤ pos shape.low) ≡ f.low = ap (λ g. g.low) same in
    let width : unsigned_abs (msb -ℤ lsb) + 1 ≡ f.width = ap (λ g. g.width) same in
    let end : unsigned_abs (lsb -ℤ pos shape.low) + (unsigned_abs (msb -ℤ lsb) + 1) ≤ shape.width = inside_at shape.low shape.width msb lsb h in
    (omega (arith, width), omega (arith, low, width, end))

-- a part lies in its signal
inside : (shape : Shape) (msb lsb : ℤ) (f : Field) → field shape msb lsb ≡ Some f → (1 ≤ f.width) × (f.low + f.width ≤ shape.width)
inside shape msb lsb f h =
    elim (cases_Bool (int_le (pos shape.low) lsb && int_le lsb msb && int_lt msb (pos (shape.low + shape.width)))) [
      | inl yes' ↦ made shape msb lsb f yes' (rw yes' at h)
      | inr no' ↦ absurd (none_some f (rw no' at h))
    ]

part_there : (base : ℕ) (ss : List Signal) (spot : Spot) (at n : ℕ) (shape : Shape) (f : Option Field) → (base + n < length ss) → (width_there : sizing.own_width ss (sizing.Whole spot (base + n)) ≡ shape.width) → (shape.width ≤ 128) → ((g : Field) → f ≡ Some g → (1 ≤ g.width) × (g.low + g.width ≤ shape.width)) → missing at f ≡ [] → Sound ss (field_breadth f) false (λ c. Sized c.width c.signed spot (part_form (base + n) f)) (part_source spot (base + n) f)
part_there base ss spot at n shape None there is small in' h = absurd (no_cons _ _ h)
part_there base ss spot at n shape (Some f) there is small in' h =
    let where' : (1 ≤ f.width) × (f.low + f.width ≤ shape.width) = in' f refl in
    record {
      lawful = (there, where'.0, omega (arith, where'.1, is));
      width = refl;
      some = where'.0;
      small = omega (arith, where'.1, small);
      sign = refl;
      tree = λ c. refl;
    }

-- what stands in the brackets of a select has numbers, and so have its ends
pub ends : (kind : PartKind) (first second : Outcome) → number_faults first ≡ [] → number_faults second ≡ [] → (number_faults (msb_of kind first second) ≡ []) × (number_faults (lsb_of kind first second) ≡ [])
ends kind (Err fault) second p q = absurd (no_cons _ _ p)
ends kind (Ok a) (Err fault) p q = absurd (no_cons _ _ q)
ends Between (Ok a) (Ok b) p q = (refl, refl)
ends Up (Ok a) (Ok b) p q = (refl, refl)
ends Down (Ok a) (Ok b) p q = (refl, refl)

pub part : (base : ℕ) (ss : List Signal) (spot : Spot) (at : ℕ) (id : Identifier) (k : Option Known) (m l : Outcome) → IsDescribed base ss k → select_faults id k ≡ [] → number_faults m ≡ [] → number_faults l ≡ [] → part_faults at k m l ≡ [] → Sound ss (part_breadth k m l) false (λ c. Sized c.width c.signed spot (part_form (signal_of base k) (field_in k m l))) (part_source spot (signal_of base k) (field_in k m l))
part base ss spot at id None m l d h p q r = absurd (no_cons _ _ h)
part base ss spot at id (Some (known.Integer None)) m l d h p q r = absurd (no_cons _ _ h)
part base ss spot at id (Some (known.Integer (Some n))) m l d h p q r = absurd (no_cons _ _ h)
part base ss spot at id (Some (known.Parameter n width signed)) m l d h p q r = absurd (no_cons _ _ h)
part base ss spot at id (Some (known.Signal n role None)) m l d h p q r = absurd d
part base ss spot at id (Some (known.Signal n role (Some shape))) (Err fault) l d h p q r = absurd (no_cons _ _ p)
part base ss spot at id (Some (known.Signal n role (Some shape))) (Ok m) (Err fault) d h p q r = absurd (no_cons _ _ q)
part base ss spot at id (Some (known.Signal n role (Some shape))) (Ok m) (Ok l) d h p q r =
    part_there base ss spot at n shape (field shape m l) d.0 d.1 d.5 (inside shape m l) r
