-- Groups of nodes that lead to their roots.
use Rattle.std.specs.Prelude.{Vec}
use Rattle.std.specs.declared.alloc.Global.{Global}
use Rattle.std.proofs.Common.{ℕ, ◌≡◌, ◌∙◌, ◌<◌, ◌+◌, arith, List, [], ◌∷◌, ◌++◌, length, get_or, Option, Some, None, refl, sym, ap, subst, inl, inr}
use Rattle.std.proofs.Math.ListN.{set}
use Rattle.std.proofs.lemmas.Bool.{cases_eq}
use Rattle.std.proofs.lemmas.List.{length-append}
use Rattle.rtl_flat.specs.Levels.{Here, Then}
use Rattle.check_found.specs.rtl_scan.Graph.{ArrowIn}
use Rattle.check_found.proofs.rtl_scan_proofs.Chains.{joined}
use Rattle.check_loops.specs.declared.groups.Group.{Group}
use Rattle.check_loops.specs.declared.groups.Search.{Search}
use Rattle.check_loops.specs.Rounds.{AreLed, IsSound, Leads, Takes}
use Rattle.check_loops.proofs.Places.{pushed_at, push_new, push_old, set_at, set_other}

pub lead_before : (rows : List (Vec ℕ Global)) (p q root : ℕ) → ArrowIn rows p q → Leads rows q root → Leads rows p root
lead_before rows p q root arrow leads =
    let (n, chain) = leads in
    (n + 1, joined (ArrowIn rows) 1 n p q root (Then 0 p p q (Here p) arrow) chain)

pub led_set : (rows : List (Vec ℕ Global)) (groups : List (Option Group)) (node : ℕ) (group : Group) → node < length groups → AreLed rows groups → Leads rows node group.root → AreLed rows (set groups node (Some group))
led_set rows groups node group inside led leads = record {
  each = λ p one is. elim (cases_eq p node) as (λ _. Leads rows p one.root) [
    | inl e ↦
        let found : Some group ≡ Some one
        = sym (set_at groups node (Some group) None inside) ∙ (ap (λ x. get_or (set groups node (Some group)) x None) (sym e) ∙ is) in
        let same : group.root ≡ one.root = let both : group ≡ one = cc in ap (λ g. g.root) both in
        subst (λ (x : ℕ). Leads rows x one.root) (sym e) (subst (λ (r : ℕ). Leads rows node r) same leads)
    | inr other ↦ led.each p one (sym (set_other groups node (Some group) None p other) ∙ is)
  ];
}

pub sound_take : (rows : List (Vec ℕ Global)) (node : ℕ) (group : Group) (old new : Search) → Takes node group old new → IsSound rows group.root old → Leads rows node group.root → IsSound rows group.root new
sound_take rows node group old new (inl same) sound leads = record {
  led = subst (λ (groups : List (Option Group)). AreLed rows groups) (sym same.0) sound.led;
  open_nodes = subst (λ (xs : List ℕ). (j : ℕ) → j < length xs → Leads rows (get_or xs j 0) group.root) (sym same.1) sound.open_nodes;
}
sound_take rows node group old new (inr taken) sound leads = record {
  led = subst (λ (groups : List (Option Group)). AreLed rows groups) (sym taken.0) (led_set rows old.groups.items node group taken.2 sound.led leads);
  open_nodes = subst (λ (xs : List ℕ). (j : ℕ) → j < length xs → Leads rows (get_or xs j 0) group.root) (sym taken.1)
      (λ j below. elim (pushed_at old.open.items node (get_or (old.open.items ++ node ∷ []) j 0) j below refl) as (λ _. Leads rows (get_or (old.open.items ++ node ∷ []) j 0) group.root) [
        | inl there ↦ let (k, inside, at) = there in
            subst (λ (p : ℕ). Leads rows p group.root) at (sound.open_nodes k inside)
        | inr last ↦ subst (λ (p : ℕ). Leads rows p group.root) (sym last) leads
      ]);
}

pub sound_none : (rows : List (Vec ℕ Global)) (root : ℕ) (search : Search) → AreLed rows search.groups.items → search.open.items ≡ [] → IsSound rows root search
sound_none rows root search led none = record {
  led = led;
  open_nodes = λ j below. absurd (let empty : length search.open.items ≡ 0 = ap length none in omega arith);
}

pub leads_itself : (rows : List (Vec ℕ Global)) (p : ℕ) → Leads rows p p
leads_itself rows p = (0, Here p)

-- the last open node is taken
module _ (rows : List (Vec ℕ Global)) (root : ℕ) (old : Search) (rest : Vec ℕ Global) (node : ℕ) (sound : IsSound rows root old) (is : old.open.items ≡ rest.items ++ node ∷ []) where
  leads_all : (j : ℕ) → j < length (rest.items ++ node ∷ []) → Leads rows (get_or (rest.items ++ node ∷ []) j 0) root
  leads_all = subst (λ (xs : List ℕ). (j : ℕ) → j < length xs → Leads rows (get_or xs j 0) root) is sound.open_nodes

  pub sound_pop : IsSound rows root (record { groups = old.groups; «open» = rest })
  sound_pop = record {
    led = sound.led;
    open_nodes = λ j below. subst (λ (p : ℕ). Leads rows p root) (push_old rest.items node 0 j below)
        (leads_all j (omega (arith, length-append rest.items (node ∷ []))));
  }

  pub leads_pop : Leads rows node root
  leads_pop =
      subst (λ (p : ℕ). Leads rows p root) (push_new rest.items node 0 (length rest.items) refl)
      (leads_all (length rest.items) (omega (arith, length-append rest.items (node ∷ []))))
