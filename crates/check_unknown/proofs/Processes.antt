-- Processes one after another, and their expressions.
use Rattle.std.proofs.Common.{ℕ, zero, suc, ◌≡◌, ◌∙◌, ◌<◌, ◌≤◌, Bool, true, false, not, cond, List, [], ◌∷◌, ◌++◌, map, length, take, get_or, Some, refl, sym, ap, arith, append-nil}
use Rattle.std.specs.List.{flat_map, list_any, slice_get}
use Rattle.std.proofs.lemmas.List.{take_all}
use Rattle.text_ground.specs.declared.text.Spot.{Spot}
use Rattle.rtl_flat.specs.declared.act.Process.{Process}
use Rattle.rtl_flat.specs.Expression.{Tree}
use Rattle.rtl_flat.specs.Process.{Task, task}
use Rattle.rtl_rule.specs.declared.finding.Finding.{Finding}
use Rattle.rtl_rule.specs.declared.rule.Rule.{Rule}
use Rattle.rtl_rule.specs.declared.rule.Rule.TheVariants as rule
use Rattle.rtl_rule.specs.Parts.{At, first_of, has_literal, is_literal_with, is_one_literal, is_x, labels, least_place, literal_places, nodes, place_of, trees, valued_trees, within, written}
use Rattle.rtl_flat.specs.Flats.{Flat}
use Rattle.rtl_rule.specs.Sites.{AreFindings}
use Rattle.check_chains.proofs.rtl_scan_proofs.Processes.{task_at}
use Rattle.check_unknown.specs.Lists.{at_spot, at_spots, below, literal_found, nodes_found, tree_spots}
use Rattle.check_unknown.specs.Unknowns.{AreUnknownLiteral, IsUnknownLiteral, all_nodes, at_node, node_sites, unknown_literal_at}
use Rattle.check_unknown.proofs.Lists.{found_of, is_empty, none_without, some_spots, spots_if, spots_picked}

-- what stands at a number
pub slice_there : {A : Type 0} (xs : List A) (n : ℕ) → n < length xs → (x : A) × (slice_get xs n ≡ Some x)
slice_there [] n below = absurd (omega (arith, below))
slice_there (x ∷ xs) zero below = (x, refl)
slice_there (x ∷ xs) (suc n) below = slice_there xs n (omega (arith, below))

pub same_some : {A : Type 0} (x y : A) → Some x ≡ Some y → x ≡ y
same_some x y e = cc

pub same_task : (processes : List Process) (p : ℕ) (one : Process) → p < length processes → one ≡ get_or processes p one → (other : Task) → slice_get (map task processes) p ≡ Some other → task one ≡ other
same_task processes p one inside is other there =
    same_some (task one) other (sym (task_at processes p one inside is) ∙ there)

-- places that a loop over expressions has found
pub spots_end : {A : Type 0} (view : A → Tree) (test : Tree → Bool) (otherwise : Spot) (n : ℕ) (items all : List A) (found : List Tree) (spots seen : List Spot) → seen ≡ spots → spots ≡ tree_spots test otherwise (map view (take n items)) → length items ≤ n → items ≡ all → map view all ≡ found → seen ≡ tree_spots test otherwise found
spots_end view test otherwise n items all found spots seen same before past whole is =
    same ∙ before ∙ ap (λ xs. tree_spots test otherwise (map view xs)) (take_all n items past ∙ whole) ∙ ap (tree_spots test otherwise) is

-- ---- rules on expressions

pub nodes_all : (name : Rule) (test : Tree → Bool) (d : Flat) (n : ℕ) → n ≡ length d.tasks → (found : List Finding) → found ≡ below (λ p one. nodes_found name test d one) 0 d.tasks n → AreFindings (λ (site : At Tree). test site.it ≡ true) (at_node name d) (node_sites d) found
nodes_all name test d n all found is =
    found_of (λ (site : At Tree). test site.it ≡ true) (λ site. test site.it) (λ site. (λ h. h, λ h. h)) (at_node name d) all_nodes d (λ p one. nodes_found name test d one)
    (λ p one. spots_picked test (place_of one.spot) (at_spot name (first_of d (written d one.does)) one.instance) (at_node name d) (p, one) (λ x. refl) (all_nodes one.does))
    n all found is

-- ---- literals

pub literals_all : (d : Flat) (n : ℕ) → n ≡ length d.tasks → (found : List Finding) → found ≡ below (literal_found d) 0 d.tasks n → AreUnknownLiteral d found
literals_all d n all found is =
    found_of IsUnknownLiteral (λ site. has_literal is_x site.it) (λ site. (λ h. h, λ h. h)) (unknown_literal_at d) (λ does. does ∷ []) d (literal_found d) (λ p one. refl) n all found is

module _ (d : Flat) (p : ℕ) (one : Task) where
  abbrev spots_of : List Spot
  spots_of =
      tree_spots (is_literal_with is_x) one.spot (flat_map nodes (valued_trees one.does))

  has_spots : (spots : List Spot) → spots ≡ spots_of → (b : Bool) → has_literal is_x one.does ≡ b → (length spots ≡ 0 → b ≡ false) × ((length spots ≡ 0 → ⊥) → b ≡ true)
  has_spots [] is b e =
      let none = some_spots (is_literal_with is_x) (place_of one.spot) (flat_map nodes (valued_trees one.does)) in
      let same : b ≡ false = sym e ∙ sym none ∙ ap (λ (xs : List Spot). not (is_empty xs)) (sym is) in
      (λ h. same, λ h. absurd (h refl))
  has_spots (first ∷ others) is b e =
      let some = some_spots (is_literal_with is_x) (place_of one.spot) (flat_map nodes (valued_trees one.does)) in
      let same : b ≡ true = sym e ∙ sym some ∙ ap (λ (xs : List Spot). not (is_empty xs)) (sym is) in
      (λ h. absurd (omega (arith, h)), λ h. same)

  found_if : (b : Bool) → has_literal is_x one.does ≡ b → literal_found d p one ≡ cond b (unknown_literal_at d (within (p, one) one.does) ∷ []) []
  found_if true e =
      ap (λ t. map (unknown_literal_at d) (cond t (within (p, one) one.does ∷ []) [])) e
  found_if false e =
      ap (λ t. map (unknown_literal_at d) (cond t (within (p, one) one.does ∷ []) [])) e

  pub no_literal_found : (spots : List Spot) (fs : List Finding) → spots ≡ spots_of → length spots ≡ 0 → fs ≡ fs ++ literal_found d p one
  no_literal_found spots fs is empty =
      let none = (has_spots spots is (has_literal is_x one.does) refl).0 empty in
      sym (ap (λ more. fs ++ more) (found_if false none) ∙ append-nil fs)

  pub first_literal_found : (spots : List Spot) (first : Spot) (fs : List Finding) → spots ≡ spots_of → (length spots ≡ 0 → ⊥) → first ≡ least_place one.spot spots → fs ++ at_spots rule.UnknownLiteral d (first ∷ []) one ≡ fs ++ literal_found d p one
  first_literal_found spots first fs is some least =
      let any = (has_spots spots is (has_literal is_x one.does) refl).1 some in
      let places : spots ≡ literal_places is_x (within (p, one) one.does)
      = is ∙ sym (spots_if (is_literal_with is_x) (place_of one.spot) (flat_map nodes (valued_trees one.does))) in
      let make = at_spot rule.UnknownLiteral (first_of d (written d one.does)) one.instance in
      ap (λ at. fs ++ make at ∷ []) (least ∙ ap (least_place one.spot) places) ∙ sym (ap (λ more. fs ++ more) (found_if true any))

  -- where no expression at all is a literal with an x bit
  pub unknown_nowhere : (fs : List Finding) → list_any (is_literal_with is_x) (all_nodes one.does) ≡ false → fs ≡ fs ++ literal_found d p one
  unknown_nowhere fs none =
      let valued = none_without (is_literal_with is_x) nodes (λ label. not (is_one_literal label)) (trees one.does) (labels one.does) none in
      sym (ap (λ more. fs ++ more) (found_if false valued) ∙ append-nil fs)
