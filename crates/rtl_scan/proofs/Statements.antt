-- What the statements of a body add, from what their parts do.
use Rattle.std.specs.Prelude.{Bool, true, false, List, [], ◌∷◌, map, Vec, Option, Some}
use Rattle.std.specs.declared.alloc.Global.{Global}
use Rattle.std.proofs.Common.{ℕ, ◌≡◌, ◌∙◌, ap, sym, subst}
use Rattle.text_ground.specs.declared.text.Spot.{Spot}
use Rattle.rtl_flat.specs.declared.expr.SizedExpr.{SizedExpr}
use Rattle.rtl_flat.specs.declared.act.Target.{Target}
use Rattle.rtl_flat.specs.declared.act.TargetPart.{TargetPart}
use Rattle.rtl_flat.specs.declared.act.CaseKind.{CaseKind}
use Rattle.rtl_flat.specs.declared.act.CaseItem.{CaseItem}
use Rattle.rtl_flat.specs.declared.act.Act.{Act}
use Rattle.rtl_flat.specs.declared.act.Act.TheVariants as act
use Rattle.rtl_flat.specs.Expression.{tree}
use Rattle.rtl_flat.specs.Process.{Action, Without, piece, action, body_of}
use Rattle.rtl_flat.specs.Paths.{either, Flow, End, Last, More}
use Rattle.rtl_flat.specs.Flows.{reads, reads_all, labels_of, action_then, body_flow, other_flow, ways, way_past, is_complete}
use Rattle.rtl_flat.proofs.ActViews.{block_is}
use Rattle.rtl_scan.specs.declared.bits.Row.{Row}
use Rattle.rtl_scan.specs.declared.scan.Counted.{Counted}
use Rattle.rtl_scan.specs.declared.scan.Sets.{Sets}
use Rattle.rtl_scan.specs.Bodies.{branches_of, other_of}
use Rattle.rtl_scan.specs.Scan.{FlowScanned, WaysScanned, FlowAlso, ItemsAlso, Reads, Commits, assign_flow}
use Rattle.rtl_scan.proofs.Bodies.{case_is, choice_is}
use Rattle.rtl_scan.proofs.Passes.{fork_scanned, items_scanned, both_scanned, way_none}

abbrev Done : Counted → (ℕ → ℕ) → Action → Sets → List Row → Sets → List Row → Type 0
Done counted ws a t log u log' = FlowScanned counted (action_then ws a End) t log u log'

module _ (counted : Counted) (ws : ℕ → ℕ) (a : Act) where
  pub set_done : (target : Target) (value : SizedExpr) (delayed : Bool) (spot : Spot) → a ≡ act.Set target value delayed spot → (parts : List TargetPart) → parts ≡ target.parts.items → (t u : Sets) (log log' : List Row) → FlowScanned counted (assign_flow ws (map piece parts) (tree value) delayed) t log u log' → FlowScanned counted (action_then ws (action a) End) t log u log'
  set_done target value delayed spot is parts same t u log log' h =
      let there : FlowScanned counted (assign_flow ws (map piece target.parts.items) (tree value) delayed) t log u log'
      = subst (λ (ps : List TargetPart). FlowScanned counted (assign_flow ws (map piece ps) (tree value) delayed) t log u log') same h in
      subst (λ (b : Act). Done counted ws (action b) t log u log') (sym is) there

  pub block_done : (body : Vec Act Global) → a ≡ act.Block body → (acts : List Act) → acts ≡ body.items → (t u : Sets) (log log' : List Row) → FlowScanned counted (body_flow ws (body_of (map action acts))) t log u log' → FlowScanned counted (action_then ws (action a) End) t log u log'
  block_done body is acts same t u log log' h =
      let there : FlowScanned counted (body_flow ws (body_of (map action body.items))) t log u log'
      = subst (λ (xs : List Act). FlowScanned counted (body_flow ws (body_of (map action xs))) t log u log') same h in
      subst (λ (b : Action). Done counted ws b t log u log') (sym (ap action is ∙ block_is body)) there

  pub if_done : (test : SizedExpr) (body : Vec Act Global) (other : Option (Vec Act Global)) (spot : Spot) → a ≡ act.If test body other spot → (taken : List Act) → taken ≡ body.items → (kept rows : List Row) → rows ≡ kept → (t t1 t2 u : Sets) (log log' : List Row) → Reads (reads ws (tree test)) t t1 → WaysScanned counted (More (other_flow ws (other_of other)) (Last (body_flow ws (body_of (map action taken))))) t1 t2 kept → Commits rows t2 log u log' → FlowScanned counted (action_then ws (action a) End) t log u log'
  if_done test body other spot is taken same kept rows same' t t1 t2 u log log' read ways' commit =
      let both : WaysScanned counted (More (other_flow ws (other_of other)) (Last (body_flow ws (body_of (map action body.items))))) t1 t2 kept
      = subst (λ (xs : List Act). WaysScanned counted (More (other_flow ws (other_of other)) (Last (body_flow ws (body_of (map action xs))))) t1 t2 kept) same ways' in
      let end : Commits kept t2 log u log' = subst (λ (xs : List Row). Commits xs t2 log u log') same' commit in
      subst (λ (b : Action). Done counted ws b t log u log') (sym (ap action is ∙ choice_is test body other spot))
      (fork_scanned counted (reads ws (tree test)) (More (other_flow ws (other_of other)) (Last (body_flow ws (body_of (map action body.items))))) t t1 t2 u log log' kept read both end)

  pub case_done : (kind : CaseKind) (full parallel : Bool) (selector : SizedExpr) (items : Vec CaseItem Global) (fallback : Option (Vec Act Global)) (spot : Spot) → a ≡ act.Case kind full parallel selector items fallback spot → (one two three : List CaseItem) → one ≡ items.items → two ≡ items.items → three ≡ items.items → (complete : Bool) (kept rows : List Row) → rows ≡ kept → (t t1 t2 u : Sets) (log log' : List Row) → Reads (either (reads ws (tree selector)) (reads_all ws (labels_of (branches_of one)))) t t1 → way_past ws complete (other_of fallback) ≡ way_past ws (is_complete ws kind full (tree selector) (branches_of two)) (other_of fallback) → WaysScanned counted (ways ws (way_past ws complete (other_of fallback)) (branches_of three)) t1 t2 kept → Commits rows t2 log u log' → FlowScanned counted (action_then ws (action a) End) t log u log'
  case_done kind full parallel selector items fallback spot is one two three same1 same2 same3 complete kept rows same' t t1 t2 u log log' read past ways' commit =
      let read' : Reads (either (reads ws (tree selector)) (reads_all ws (labels_of (branches_of items.items)))) t t1
      = subst (λ (xs : List CaseItem). Reads (either (reads ws (tree selector)) (reads_all ws (labels_of (branches_of xs)))) t t1) same1 read in
      let past' : way_past ws complete (other_of fallback) ≡ way_past ws (is_complete ws kind full (tree selector) (branches_of items.items)) (other_of fallback)
      = past ∙ ap (λ xs. way_past ws (is_complete ws kind full (tree selector) (branches_of xs)) (other_of fallback)) same2 in
      let all : WaysScanned counted (ways ws (way_past ws complete (other_of fallback)) (branches_of items.items)) t1 t2 kept
      = subst (λ (xs : List CaseItem). WaysScanned counted (ways ws (way_past ws complete (other_of fallback)) (branches_of xs)) t1 t2 kept) same3 ways' in
      let all' : WaysScanned counted (ways ws (way_past ws (is_complete ws kind full (tree selector) (branches_of items.items)) (other_of fallback)) (branches_of items.items)) t1 t2 kept
      = subst (λ (way : Option Flow). WaysScanned counted (ways ws way (branches_of items.items)) t1 t2 kept) past' all in
      let end : Commits kept t2 log u log' = subst (λ (xs : List Row). Commits xs t2 log u log') same' commit in
      subst (λ (b : Action). Done counted ws b t log u log') (sym (ap action is ∙ case_is kind full parallel selector items fallback spot))
      (fork_scanned counted (either (reads ws (tree selector)) (reads_all ws (labels_of (branches_of items.items)))) (ways ws (way_past ws (is_complete ws kind full (tree selector) (branches_of items.items)) (other_of fallback)) (branches_of items.items)) t t1 t2 u log log' kept read' all' end)

-- a case with `default`
pub default_done : (counted : Counted) (ws : ℕ → ℕ) (complete : Bool) (fallback : Option (Vec Act Global)) (body : Vec Act Global) → fallback ≡ Some body → (acts : List Act) → acts ≡ body.items → (items : List CaseItem) (t t1 t2 : Sets) (kept left : List Row) → WaysScanned counted (Last (body_flow ws (body_of (map action acts)))) t t1 kept → ItemsAlso counted ws (branches_of items) t1 kept t2 left → WaysScanned counted (ways ws (way_past ws complete (other_of fallback)) (branches_of items)) t t2 left
default_done counted ws complete fallback body is acts same items t t1 t2 kept left way also =
    let there : WaysScanned counted (Last (body_flow ws (body_of (map action body.items)))) t t1 kept
    = subst (λ (xs : List Act). WaysScanned counted (Last (body_flow ws (body_of (map action xs)))) t t1 kept) same way in
    subst (λ (f : Option (Vec Act Global)). WaysScanned counted (ways ws (way_past ws complete (other_of f)) (branches_of items)) t t2 left) (sym is)
    (items_scanned counted ws (body_flow ws (body_of (map action body.items))) (branches_of items) t t1 t2 kept left there also)

-- a case that may run no item
pub open_done : (counted : Counted) (ws : ℕ → ℕ) (complete : Bool) → complete ≡ false → (items : List CaseItem) (t u : Sets) (none left : List Row) → none ≡ [] → ItemsAlso counted ws (branches_of items) t none u left → WaysScanned counted (ways ws (way_past ws complete Without) (branches_of items)) t u left
open_done counted ws complete is items t u none left empty also =
    let there : ItemsAlso counted ws (branches_of items) t [] u left
    = subst (λ (xs : List Row). ItemsAlso counted ws (branches_of items) t xs u left) empty also in
    subst (λ (b : Bool). WaysScanned counted (ways ws (way_past ws b Without) (branches_of items)) t u left) (sym is)
    (items_scanned counted ws End (branches_of items) t t u [] left (way_none counted t) there)

-- a case that runs one of its items
pub closed_done : (counted : Counted) (ws : ℕ → ℕ) (complete : Bool) → complete ≡ true → (items : List CaseItem) (item : CaseItem) (others : List CaseItem) → items ≡ item ∷ others → (acts : List Act) → acts ≡ item.body.items → (t t1 u : Sets) (kept left : List Row) → WaysScanned counted (Last (body_flow ws (body_of (map action acts)))) t t1 kept → ItemsAlso counted ws (branches_of others) t1 kept u left → WaysScanned counted (ways ws (way_past ws complete Without) (branches_of items)) t u left
closed_done counted ws complete is items item others split acts same t t1 u kept left way also =
    let there : WaysScanned counted (Last (body_flow ws (body_of (map action item.body.items)))) t t1 kept
    = subst (λ (xs : List Act). WaysScanned counted (Last (body_flow ws (body_of (map action xs)))) t t1 kept) same way in
    let all : WaysScanned counted (ways ws (way_past ws true Without) (branches_of (item ∷ others))) t u left
    = items_scanned counted ws (body_flow ws (body_of (map action item.body.items))) (branches_of others) t t1 u kept left there also in
    let all' : WaysScanned counted (ways ws (way_past ws complete Without) (branches_of (item ∷ others))) t u left
    = subst (λ (b : Bool). WaysScanned counted (ways ws (way_past ws b Without) (branches_of (item ∷ others))) t u left) (sym is) all in
    subst (λ (xs : List CaseItem). WaysScanned counted (ways ws (way_past ws complete Without) (branches_of xs)) t u left) (sym split) all'

-- a further way, from slices of vectors
pub also_is : (counted : Counted) (ws : ℕ → ℕ) (acts body : List Act) → acts ≡ body → (rows kept : List Row) → rows ≡ kept → (t u : Sets) (left : List Row) → FlowAlso counted (body_flow ws (body_of (map action acts))) t rows u left → FlowAlso counted (body_flow ws (body_of (map action body))) t kept u left
also_is counted ws acts body same rows kept same' t u left h =
    let there : FlowAlso counted (body_flow ws (body_of (map action body))) t rows u left
    = subst (λ (xs : List Act). FlowAlso counted (body_flow ws (body_of (map action xs))) t rows u left) same h in
    subst (λ (xs : List Row). FlowAlso counted (body_flow ws (body_of (map action body))) t xs u left) same' there

pub both_done : (counted : Counted) (ws : ℕ → ℕ) (one other : Flow) (t t1 t2 : Sets) (kept rows left : List Row) → rows ≡ kept → WaysScanned counted (Last one) t t1 kept → FlowAlso counted other t1 rows t2 left → WaysScanned counted (More one (Last other)) t t2 left
both_done counted ws one other t t1 t2 kept rows left same a b =
    both_scanned counted one other t t1 t2 kept left a
    (subst (λ (xs : List Row). FlowAlso counted other t1 xs t2 left) same b)
