-- An expression without faults has the sizes and signs of the standard.
use Rattle.std.specs.Prelude.{ℕ, ◌*◌, ◌≤◌, max, min, nat_le, ◌&&◌, pos, negsuc, Bool, true, false, List, [], ◌++◌, Ok, Err}
use Rattle.std.proofs.Common.{◌≡◌, ◌∙◌, ap, sym, refl, subst, arith, inl, inr}
use Rattle.std.proofs.lemmas.Bool.{cases_Bool}
use Rattle.std.proofs.lemmas.Bool.Decides.{nat_tests}
use Rattle.rtl_const.specs.Constant.{Outcome, constant}
use Rattle.text_ground.specs.declared.text.Spot.{Spot}
use Rattle.rtl_tree.specs.TreeExpr.{Formula, Number, Read, ReadBit, ReadPart, Parens, Apply, Concat, Repeat, Unary, Binary, Choose, Formulas, no_formulas, more_formulas}
use Rattle.rtl_flat.specs.declared.signal.Signal.{Signal}
use Rattle.rtl_flat.specs.Expression.{Tree, Sized}
use Rattle.rtl_flat.specs.Expression as tree
use Rattle.rtl_flat.specs.Signs.{IsExpression}
use Rattle.rtl_flat.specs.Sizing.{Source, own_width, own_sign, sized, AreLawful, HaveBits}
use Rattle.rtl_flat.specs.Sizing as sizing
use Rattle.rtl_flat.proofs.Signed.{is_expression}
use Rattle.elab_scope.specs.declared.context.Context.{Context}
use Rattle.elab_scope.specs.declared.widths.Breadth.{Breadth}
use Rattle.elab_scope.specs.declared.widths.Breadth.TheVariants.{Bits}
use Rattle.elab_scope.specs.Expressions.{faults, row_faults}
use Rattle.elab_scope.specs.Names.{Meanings, numbers_in}
use Rattle.elab_scope.specs.Operators.{operation, prefix}
use Rattle.elab_scope.specs.Own.{breadth, row_breadth, sign}
use Rattle.elab_scope.specs.Rules.{width_faults, number_faults, times_faults, select_faults, run_faults, part_faults}
use Rattle.elab_scope.specs.Selects.{msb_in, lsb_in}
use Rattle.elab_scope.specs.Sources.{Describes, source, row_source}
use Rattle.elab_scope.specs.Trees.{tree_of, row_tree, own_context, spot_in, copies_of}
use Rattle.elab_scope.specs.Widths.{bits, beside, fit, fitted, copied, repeated}
use Rattle.elab_scope.proofs.Fitting.{no_cons, fits, fitted_is, summed, beside_summed, fit_summed, fit_is}
use Rattle.elab_scope.proofs.Leaves as leaf
use Rattle.elab_scope.proofs.Sound.{nil_left, nil_right, Sound, IsSound, own_tree, applied, unary, binary, choice}

-- a row of parts has this breadth and this tree, and is lawful
record SoundRow (ss : List Signal) (b : Breadth) (t : Tree) (e : Source) : Type 0 where
  pub lawful : AreLawful ss e
  pub width : b ≡ summed (own_width ss e)
  pub tree : (w : ℕ) (s : Bool) → t ≡ sized ss w s e

more_parts : (file base : ℕ) (scope : Meanings) (ss : List Signal) (e : Formula) (b : Breadth) (t : Tree) (others : Source) → IsSound file base scope ss e → SoundRow ss b t others → SoundRow ss (beside (breadth scope e) b) (tree.Beside (tree_of file base scope e (own_context scope e)) t) (sizing.Beside (source file base scope e) others)
more_parts file base scope ss e b t others h r =
    record {
      lawful = (h.lawful, h.small, r.lawful);
      width =
          ap (λ a. beside a b) h.width
          ∙ ap (beside (Bits (own_width ss (source file base scope e)))) r.width
          ∙ beside_summed (own_width ss (source file base scope e)) (own_width ss others) h.small;
      tree = λ w s.
          ap (λ first. tree.Beside first t) (own_tree file base scope ss e h)
          ∙ ap (tree.Beside (sized ss (own_width ss (source file base scope e)) (own_sign ss (source file base scope e)) (source file base scope e))) (r.tree w s);
    }

along : (at : ℕ) (a b : Breadth) → a ≡ b → width_faults at (fit a) ≡ [] → width_faults at (fit b) ≡ []
along at a b is h = sym (ap (λ b. width_faults at (fit b)) is) ∙ h

joined : (ss : List Signal) (spot : Spot) (at : ℕ) (b : Breadth) (t : Tree) (e : Source) → SoundRow ss b t e → width_faults at (fit b) ≡ [] → Sound ss (fit b) false (λ c. Sized c.width c.signed spot t) (sizing.Concat spot e)
joined ss spot at b t e r h =
    let fine : (1 ≤ own_width ss e) × (own_width ss e ≤ 128) = fit_summed at (own_width ss e) (along at b (summed (own_width ss e)) r.width h) in
    record {
      lawful = (r.lawful, fine.0);
      width = ap fit r.width ∙ fit_is (own_width ss e) fine.0 fine.1;
      some = fine.0;
      small = fine.1;
      sign = refl;
      tree = λ c. ap (Sized c.width c.signed spot) (r.tree c.width c.signed);
    }

-- copies that fit have something that fits
record Copies (k n : ℕ) : Type 0 where
  pub times_some : 1 ≤ k
  pub times_most : k ≤ 128
  pub some : 1 ≤ n
  pub most : n ≤ 128
  pub all_some : 1 ≤ k * n
  pub all_most : k * n ≤ 128

copies_of_fine : (k n : ℕ) → 1 ≤ k → k ≤ 128 → 1 ≤ n → n ≤ 128 → (1 ≤ k * n) × (k * n ≤ 128) → Copies k n
copies_of_fine k n a b c d e =
    record { times_some = a; times_most = b; some = c; most = d; all_some = e.0; all_most = e.1 }

copied_fits : (at k n : ℕ) → 1 ≤ k → k ≤ 128 → width_faults at (copied k (fitted n)) ≡ [] → Copies k n
copied_fits at k n low high h =
    elim (cases_Bool (nat_le 1 n && nat_le n 128)) [
      | inl fine ↦ copies_of_fine k n low high (grind (arith, nat_tests)) (grind (arith, nat_tests)) (fits at (k * n) (rw fine at h))
      | inr no' ↦ absurd (no_cons _ _ (rw no' at h))
    ]

copied_row : (at k n : ℕ) → 1 ≤ k → k ≤ 128 → width_faults at (copied k (fit (summed n))) ≡ [] → Copies k n
copied_row at k n low high h =
    elim (cases_Bool (nat_le n 128)) [
      | inl fine ↦ copied_fits at k n low high (rw fine at h)
      | inr no' ↦ absurd (no_cons _ _ (rw no' at h))
    ]

copies_fit : (at k n : ℕ) → times_faults at (Ok (pos k)) ≡ [] → width_faults at (repeated (Ok (pos k)) (fit (summed n))) ≡ [] → Copies k n
copies_fit at k n p h =
    elim (cases_Bool (nat_le 1 k)) [
      | inl some ↦ elim (cases_Bool (nat_le k 128)) [
        | inl few ↦ copied_row at k n (grind (arith, nat_tests)) (grind (arith, nat_tests)) (rw (some, few) at h)
        | inr many ↦ absurd (no_cons _ _ (rw (some, many) at h))
      ]
      | inr none ↦ absurd (no_cons _ _ (rw none at p))
    ]

times_is : (k n : ℕ) → Copies k n → repeated (Ok (pos k)) (Bits n) ≡ Bits (k * n)
times_is k n c =
    let low : 1 ≤ k = c.times_some in
    let high : k ≤ 128 = c.times_most in
    let some : nat_le 1 k ≡ true = grind (arith, nat_tests) in
    let few : nat_le k 128 ≡ true = grind (arith, nat_tests) in
    rw (some, few) (fitted_is (k * n) c.all_some c.all_most)

clamped : (n : ℕ) → 1 ≤ n → n ≤ 128 → min (max n 1) 128 ≡ n
clamped n low high = omega arith

repeats : (ss : List Signal) (spot : Spot) (at : ℕ) (o : Outcome) (b : Breadth) (t : Tree) (e : Source) → SoundRow ss b t e → times_faults at o ≡ [] → width_faults at (repeated o (fit b)) ≡ [] → Sound ss (repeated o (fit b)) false (λ c. Sized c.width c.signed spot (tree.Repeated (copies_of o) (Sized (bits (fit b)) false spot t))) (sizing.Repeated spot (copies_of o) (sizing.Concat spot e))
repeats ss spot at (Err fault) b t e r p h = absurd (no_cons _ _ p)
repeats ss spot at (Ok (negsuc k)) b t e r p h = absurd (no_cons _ _ p)
repeats ss spot at (Ok (pos k)) b t e r p h =
    let n = own_width ss e in
    let c : Copies k n = copies_fit at k n p (sym (ap (λ b. width_faults at (repeated (Ok (pos k)) (fit b))) r.width) ∙ h) in
    let copies : min k 128 ≡ k = omega (arith, c.times_most) in
    let fit_b : fit b ≡ Bits n = ap fit r.width ∙ fit_is n c.some c.most in
    record {
      lawful = ((r.lawful, c.some), rw copies c.all_some, c.most);
      width =
          ap (repeated (Ok (pos k))) fit_b
          ∙ times_is k n c
          ∙ ap (λ j. Bits (j * n)) (sym copies);
      some = rw copies c.all_some;
      small = rw copies c.all_most;
      sign = refl;
      tree = λ d.
          ap (λ w. Sized d.width d.signed spot (tree.Repeated (min k 128) (Sized w false spot t))) (ap bits fit_b ∙ clamped n c.some c.most)
          ∙ ap (λ u. Sized d.width d.signed spot (tree.Repeated (min k 128) (Sized n false spot u))) (r.tree n false);
    }

mutual
  pub sound : (file base : ℕ) (scope : Meanings) (ss : List Signal) → Describes base ss scope → (e : Formula) → faults scope e ≡ [] → IsSound file base scope ss e
  sound file base scope ss d (Number value at) h = leaf.number ss (spot_in file at) at value h
  sound file base scope ss d (Read name) h =
      leaf.name base ss (spot_in file name.at) name (scope name.text) (d name.text) h
  sound file base scope ss d (ReadBit name index) h =
      leaf.bit file base scope ss (spot_in file name.at) name (scope name.text) (constant (numbers_in scope) index) index (d name.text) (nil_left (select_faults name (scope name.text)) _ h) (sound file base scope ss d index (nil_right (select_faults name (scope name.text)) _ h))
  sound file base scope ss d (ReadPart name kind start end) h =
      let first = select_faults name (scope name.text) in
      let second = faults scope start ++ number_faults (constant (numbers_in scope) start) in
      let third = faults scope end ++ number_faults (constant (numbers_in scope) end) in
      let fourth = run_faults name.at kind (constant (numbers_in scope) end) in
      let fifth = part_faults name.at (scope name.text) (msb_in scope kind start end) (lsb_in scope kind start end) in
      let most : first ++ second ++ third ++ fourth ≡ [] = nil_left (first ++ second ++ third ++ fourth) fifth h in
      let three : first ++ second ++ third ≡ [] = nil_left (first ++ second ++ third) fourth most in
      let two : first ++ second ≡ [] = nil_left (first ++ second) third three in
      let ends = leaf.ends kind (constant (numbers_in scope) start) (constant (numbers_in scope) end) (nil_right (faults scope start) _ (nil_right first second two)) (nil_right (faults scope end) _ (nil_right (first ++ second) third three)) in
      leaf.part base ss (spot_in file name.at) name.at name (scope name.text) (msb_in scope kind start end) (lsb_in scope kind start end) (d name.text) (nil_left first second two) ends.0 ends.1 (nil_right (first ++ second ++ third ++ fourth) fifth h)
  sound file base scope ss d (Parens at inner) h =
      let i = sound file base scope ss d inner (nil_left (faults scope inner) _ h) in
      record { lawful = i.lawful; width = i.width; some = i.some; small = i.small; sign = i.sign; tree = i.tree }
  sound file base scope ss d (Apply function at inner) h =
      let front : faults scope inner ++ width_faults at (breadth scope (Apply function at inner)) ≡ [] = nil_left (faults scope inner ++ width_faults at (breadth scope (Apply function at inner))) _ h in
      applied file base scope ss (spot_in file at) function inner (constant (numbers_in scope) (Apply function at inner)) (sound file base scope ss d inner (nil_left (faults scope inner) _ front))
  sound file base scope ss d (Concat at parts) h =
      joined ss (spot_in file at) at (row_breadth scope parts) (row_tree file base scope parts) (row_source file base scope parts) (sound_row file base scope ss d parts (nil_left (row_faults scope parts) _ h)) (nil_right (row_faults scope parts) _ h)
  sound file base scope ss d (Repeat at times parts) h =
      let first = faults scope times ++ times_faults at (constant (numbers_in scope) times) in
      let last = width_faults at (breadth scope (Repeat at times parts)) in
      let front : first ++ row_faults scope parts ≡ [] = nil_left (first ++ row_faults scope parts) last h in
      repeats ss (spot_in file at) at (constant (numbers_in scope) times) (row_breadth scope parts) (row_tree file base scope parts) (row_source file base scope parts) (sound_row file base scope ss d parts (nil_right first _ front)) (nil_right (faults scope times) _ (nil_left first _ front)) (nil_right (first ++ row_faults scope parts) last h)
  sound file base scope ss d (Unary operator at a) h =
      unary file base scope ss (spot_in file at) (prefix operator) a (sound file base scope ss d a (nil_left (faults scope a) _ h))
  sound file base scope ss d (Binary operator at a b) h =
      let own = width_faults at (breadth scope (Binary operator at a b)) in
      let most : faults scope a ++ faults scope b ++ own ≡ [] = nil_left (faults scope a ++ faults scope b ++ own) _ h in
      let front : faults scope a ++ faults scope b ≡ [] = nil_left (faults scope a ++ faults scope b) own most in
      binary file base scope ss (spot_in file at) (operation operator) (constant (numbers_in scope) (Binary operator at a b)) a b (sound file base scope ss d a (nil_left (faults scope a) _ front)) (sound file base scope ss d b (nil_right (faults scope a) _ front))
  sound file base scope ss d (Choose at k a b) h =
      let three : faults scope k ++ faults scope a ++ faults scope b ≡ [] = nil_left (faults scope k ++ faults scope a ++ faults scope b) _ h in
      let two : faults scope k ++ faults scope a ≡ [] = nil_left (faults scope k ++ faults scope a) _ three in
      choice file base scope ss (spot_in file at) k a b (sound file base scope ss d k (nil_left (faults scope k) _ two)) (sound file base scope ss d a (nil_right (faults scope k) _ two)) (sound file base scope ss d b (nil_right (faults scope k ++ faults scope a) _ three))

  sound_row : (file base : ℕ) (scope : Meanings) (ss : List Signal) → Describes base ss scope → (parts : Formulas) → row_faults scope parts ≡ [] → SoundRow ss (row_breadth scope parts) (row_tree file base scope parts) (row_source file base scope parts)
  sound_row file base scope ss d no_formulas h = record { lawful = tt; width = refl; tree = λ w s. refl }
  sound_row file base scope ss d (more_formulas first others) h =
      more_parts file base scope ss first (row_breadth scope others) (row_tree file base scope others) (row_source file base scope others) (sound file base scope ss d first (nil_left (faults scope first) _ h)) (sound_row file base scope ss d others (nil_right (faults scope first) _ h))

-- the tree of an expression without faults is its sizing, in every context
pub tree_is_sized : (file base : ℕ) (scope : Meanings) (ss : List Signal) → Describes base ss scope → (e : Formula) → faults scope e ≡ [] → (c : Context) → tree_of file base scope e c ≡ sized ss c.width c.signed (source file base scope e)
tree_is_sized file base scope ss d e h = (sound file base scope ss d e h).tree

-- and it is an expression of the design, where the context is no narrower, and signed only where it is signed itself
pub tree_is_expression : (file base : ℕ) (scope : Meanings) (ss : List Signal) → Describes base ss scope → HaveBits ss → (e : Formula) → faults scope e ≡ [] → (c : Context) → bits (breadth scope e) ≤ c.width → c.width ≤ 128 → (c.signed ≡ true → sign scope e ≡ true) → IsExpression ss (tree_of file base scope e c)
tree_is_expression file base scope ss d has e h c below top may =
    let s = sound file base scope ss d e h in
    let n = own_width ss (source file base scope e) in
    let own : bits (breadth scope e) ≡ n = ap bits s.width ∙ clamped n s.some s.small in
    subst (IsExpression ss) (sym (s.tree c)) (is_expression ss has c.width c.signed (source file base scope e) s.lawful (omega (arith, own, below)) top (λ is. sym s.sign ∙ may is))
