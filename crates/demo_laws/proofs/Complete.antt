-- Of a case that is complete by its labels an item is met, whatever its selector is.
use Rattle.std.proofs.Common.{◌≡◌, ◌∙◌, Bool, true, false, ◌||◌, if◌then◌else◌, List, [], ◌∷◌, ◌++◌, All, refl, sym, ap, subst, inl, inr, arith}
use Rattle.std.specs.List.{list_all, list_any}
use Rattle.std.proofs.lemmas.Bool.{cond-true, false≢true, or_cases, or_left, or_right}
use Rattle.std.proofs.lemmas.List.{append-nil, append_assoc}
use Rattle.std.proofs.lemmas.List.Elements.{All-append, All-cons, All-head, All-nil, All-tail}
use Rattle.std.proofs.lemmas.List.Folds.{list_any-append}
use Rattle.rtl_bits.specs.declared.Bit.{Bit}
use Rattle.rtl_flat.specs.declared.act.CaseKind.{CaseKind}
use Rattle.rtl_flat.specs.Expression.{Tree, Sized, Literal, Recast}
use Rattle.rtl_flat.specs.Flows.{complete_by_labels, cover, covers, is_wild, labels_of, literal, literals}
use Rattle.rtl_flat.specs.Labels.{label_matches}
use Rattle.rtl_flat.specs.Process.{Branches, Done, NoBranch, Branch}
use Rattle.rtl_flat.specs.Signs.{IsExpression, sign_of}
use Rattle.rtl_flat.specs.Sizes.{width_of}
use Rattle.rtl_flat.specs.Value.{value}
use Rattle.rtl_flat.specs.WellFormed.{AreBranches}
use Rattle.event_model.specs.Bodies.{some_matches}
use Rattle.rtl_flat.specs.Flats.{Flat, widths}
use Rattle.event_model.specs.Writes.{Values}
use Rattle.net_model.specs.declared.fill.Fill.{Fill}
use Rattle.net_model.specs.Block.{item_meets, some_meets}
use Rattle.net_model.specs.Numbers.{AreNumbers, digits, is_literal, is_some_literal, label_digits}
use Rattle.demo_clean.specs.net_laws.Tame.{IsFirm}
use Rattle.demo_clean.proofs.net_laws_proofs.Covered.{covered}
use Rattle.demo_clean.proofs.net_laws_proofs.Digits.{digits_known, digits_size}
use Rattle.demo_clean.proofs.net_laws_proofs.Known.{both}

-- ---- labels that are literals

abbrev kept : List Tree → List Tree
kept [] = []
kept (x ∷ xs) = if is_literal x then x ∷ kept xs else kept xs

kept_all : (P : Tree → Type 0) (xs : List Tree) → All P xs → All P (kept xs)
kept_all P [] all = all
kept_all P (x ∷ xs) all =
    by (is_literal x) (kept_all P xs (All-tail P x xs all))
  where
    by : (b : Bool) → All P (kept xs) → All P (if b then x ∷ kept xs else kept xs)
    by true rest = All-cons P x (kept xs) (All-head P x xs all) rest
    by false rest = rest

kept_literals : (xs : List Tree) → literals (kept xs) ≡ literals xs
kept_literals [] = refl
kept_literals (x ∷ xs) = by (kept_literals xs) (literal x) refl
  where
    by : literals (kept xs) ≡ literals xs → (l : List (List Bit)) → literal x ≡ l → literals (if is_some_literal l then x ∷ kept xs else kept xs) ≡ literal x ++ literals xs
    by rest [] is = rest ∙ ap (λ (l : List (List Bit)). l ++ literals xs) (sym is)
    by rest (b ∷ bs) is = ap (λ (l : List (List Bit)). literal x ++ l) rest

-- those of all items
abbrev lits : Branches → List Tree
lits NoBranch = []
lits (Branch labels body others) = kept labels ++ lits others

literals_append : (xs ys : List Tree) → literals (xs ++ ys) ≡ literals xs ++ literals ys
literals_append [] ys = refl
literals_append (x ∷ xs) ys =
    ap (λ (l : List (List Bit)). literal x ++ l) (literals_append xs ys) ∙ sym (append_assoc (literal x) (literals xs) (literals ys))

lits_literals : (branches : Branches) → literals (lits branches) ≡ literals (labels_of branches)
lits_literals NoBranch = refl
lits_literals (Branch labels body others) =
    literals_append (kept labels) (lits others)
    ∙ both (λ (a b : List (List Bit)). a ++ b) (literals (kept labels)) (literals labels) (literals (lits others)) (literals (labels_of others)) (kept_literals labels) (lits_literals others)
    ∙ sym (literals_append labels (labels_of others))

module _ (d : Flat) (f : Fill) (n : Values) (are : AreNumbers d n) (kind : CaseKind) where
  kept_meets : (bits : List Bit) (labels : List Tree) → some_matches kind n bits (kept labels) ≡ true → some_meets f n kind bits labels ≡ true
  kept_meets bits [] h = h
  kept_meets bits (x ∷ xs) h = by (kept_meets bits xs) (is_literal x) refl h
    where
      by : (some_matches kind n bits (kept xs) ≡ true → some_meets f n kind bits xs ≡ true) → (b : Bool) → is_literal x ≡ b → some_matches kind n bits (if b then x ∷ kept xs else kept xs) ≡ true → (label_matches kind bits (label_digits f n x) || some_meets f n kind bits xs) ≡ true
      by rest true is found =
          elim (or_cases (label_matches kind bits (value n x)) (some_matches kind n bits (kept xs)) found) [
            | inl here ↦
                or_left (label_matches kind bits (label_digits f n x)) _
                (ap (label_matches kind bits) (cond-true (is_literal x) (value n x) (digits f n x) is) ∙ here)
            | inr there ↦ or_right (label_matches kind bits (label_digits f n x)) _ (rest there)
          ]
      by rest false is found =
          or_right (label_matches kind bits (label_digits f n x)) _ (rest found)

  lits_meet : (bits : List Bit) (branches : Branches) → some_matches kind n bits (lits branches) ≡ true → item_meets f n kind bits branches ≡ true
  lits_meet bits NoBranch h = h
  lits_meet bits (Branch labels body others) h =
      elim (or_cases (some_matches kind n bits (kept labels)) (some_matches kind n bits (lits others)) (sym (list_any-append (λ (label : Tree). label_matches kind bits (value n label)) (kept labels) (lits others)) ∙ h)) [
        | inl here ↦ or_left (some_meets f n kind bits labels) _ (kept_meets bits labels here)
        | inr there ↦ or_right (some_meets f n kind bits labels) _ (lits_meet bits others there)
      ]

  -- what is known of each label
  record IsLabel (selector label : Tree) : Type 0 where
    lawful : IsExpression d.signals label
    wide : width_of (widths d) label ≡ width_of (widths d) selector
    sign : sign_of label ≡ sign_of selector

  all_labels : (selector : Tree) (branches : Branches) → AreBranches d.signals selector branches → All (IsLabel selector) (lits branches)
  all_labels selector NoBranch lawful = All-nil (IsLabel selector)
  all_labels selector (Branch labels body others) lawful =
      All-append (IsLabel selector) (kept labels) (lits others)
      (kept_all (IsLabel selector) labels (λ k e below. record { lawful = lawful.0 k e below; wide = lawful.1 k e below; sign = lawful.2 k e below }))
      (all_labels selector others lawful.4)

  -- by another selector, which is known and has the same bits
  by_other :
      (selector other : Tree) (branches : Branches) → AreBranches d.signals selector branches → IsExpression d.signals other → IsFirm d other →
      width_of (widths d) other ≡ width_of (widths d) selector → sign_of other ≡ sign_of selector → value n other ≡ digits f n selector →
      ((labels : List (List Bit)) → covers (widths d) kind other labels ≡ covers (widths d) kind selector labels) →
      complete_by_labels (widths d) kind selector branches ≡ true → item_meets f n kind (digits f n selector) branches ≡ true
  by_other selector other branches lawful sized firm wide sign same cover h =
      let all = all_labels selector branches lawful in
      let alone : Branches = Branch (lits branches) Done NoBranch in
      let labels_are : literals (labels_of alone) ≡ literals (labels_of branches)
      = ap literals (append-nil (lits branches)) ∙ lits_literals branches in
      let whole : complete_by_labels (widths d) kind other alone ≡ true
      = ap (λ l. list_any (list_all (is_wild kind)) l || covers (widths d) kind other l) labels_are
      ∙ ap (λ b. list_any (list_all (is_wild kind)) (literals (labels_of branches)) || b) (cover (literals (labels_of branches))) ∙ h in
      let found : some_matches kind n (value n other) (lits branches ++ []) ≡ true
      = covered d n are kind other alone sized
      (λ k e below. (all k e below).lawful, λ k e below. (all k e below).wide ∙ sym wide, λ k e below. (all k e below).sign ∙ sym sign, tt, tt)
      firm whole in
      lits_meet (digits f n selector) branches
      (subst (λ l. some_matches kind n (digits f n selector) l ≡ true) (append-nil (lits branches))
      (subst (λ bits. some_matches kind n bits (lits branches ++ []) ≡ true) same found))

  pub complete_meets :
      (selector : Tree) (branches : Branches) → IsExpression d.signals selector → AreBranches d.signals selector branches →
      complete_by_labels (widths d) kind selector branches ≡ true → item_meets f n kind (digits f n selector) branches ≡ true
  complete_meets (Sized width signed spot e) branches sized lawful h =
      let size = digits_size d f n are e sized.widths.2 in
      let fits = sized.widths.1 in
      let some = fits.not_empty in
      let inside = fits.inside in
      by_other (Sized width signed spot e) (Sized width signed spot (Recast (Literal (digits f n e)))) branches lawful
      (record {
        widths = (sized.widths.0, record { not_empty = omega (arith, size, some); inside = omega (arith, size, inside); whole = λ none. absurd (false≢true none) }, tt);
        signs = (tt, tt);
      })
      (digits_known d f n are e sized.widths.2) refl refl refl
      (λ labels. ap (λ own. cover kind own width signed labels) size) h
  complete_meets selector branches sized lawful h =
      by_other selector (Literal (digits f n selector)) branches lawful
      (record { widths = tt; signs = tt }) (digits_known d f n are selector sized.widths)
      (digits_size d f n are selector sized.widths) refl refl (λ labels. refl) h
