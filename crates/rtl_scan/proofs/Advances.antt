-- The steps of a search make it a search again, with less to do.
use Rattle.std.proofs.Common.{ℕ, zero, suc, ◌≡◌, ◌∙◌, ◌<◌, ◌≤◌, ◌+◌, ◌-◌, ◌^◌, max, arith, List, [], ◌∷◌, ◌++◌, length, map, get_or, take, Option, None, refl, sym, ap, subst, inl, inr}
use Rattle.std.specs.Prelude.{Vec, ◌⊎◌}
use Rattle.std.specs.declared.alloc.Global.{Global}
use Rattle.std.proofs.Math.ListN.{set}
use Rattle.std.proofs.lemmas.List.{get_or_default}
use Rattle.std.proofs.lemmas.Bool.{cases_eq}
use Rattle.rtl_flat.specs.Levels.{IsBehindCycle, IsDepth, IsLevelIn}
use Rattle.rtl_scan.specs.declared.graph.Mark.{Mark}
use Rattle.rtl_scan.specs.declared.graph.Mark.TheVariants.{New, Open, Done, Cyclic}
use Rattle.rtl_scan.specs.declared.graph.Vertex.{Vertex}
use Rattle.rtl_scan.specs.declared.graph.Search.{Search}
use Rattle.rtl_scan.specs.Graph.{row, ArrowIn, at, phase, cost, pending, is_pending, total, IsSearch, AreRows, IsSearching, StayOld, IsStep, IsVisit, IsVisited, HasSearched, AreDepths, fresh, answer_of}
use Rattle.rtl_scan.proofs.Chains.{depth_from_before}
use Rattle.rtl_scan.proofs.Searches.{at_set, at_other, sum_set, popped, advanced, opened, cornered, started, answered_all}

pub at_get : (nodes : List Vertex) (q : ℕ) (d : Vertex) → q < length nodes → get_or nodes q d ≡ at nodes q
at_get [] q d h = absurd (omega arith)
at_get (x ∷ nodes) zero d h = refl
at_get (x ∷ nodes) (suc q) d h = at_get nodes q d (omega arith)

pub row_get : (rows : List (Vec ℕ Global)) (q : ℕ) (d : Vec ℕ Global) → q < length rows → (get_or rows q d).items ≡ row rows q
row_get [] q d h = absurd (omega arith)
row_get (x ∷ rows) zero d h = refl
row_get (x ∷ rows) (suc q) d h = row_get rows q d (omega arith)

-- a node that isn't new stands for another
stays : (nodes : List Vertex) (q : ℕ) (v : Vertex) → q < length nodes → (v.mark ≡ New → ⊥) → StayOld nodes (set nodes q v)
stays nodes q v inside old r was is =
    elim (cases_eq r q) [
      | inl e ↦ old (sym (ap (λ x. (at (set nodes q v) x).mark) e ∙ ap (λ x. x.mark) (at_set nodes q v inside)) ∙ is)
      | inr other ↦ was (sym (ap (λ x. x.mark) (at_other nodes q v r other)) ∙ is)
    ]

-- of lists
record Stepped (rows : List (Vec ℕ Global)) (nodes : List Vertex) (nodes' : List Vertex) (stack' : List ℕ) (finished' : ℕ) : Type 0 where
  search : IsSearch rows nodes' stack' finished'
  less : total cost nodes' < total cost nodes
  old_ones : StayOld nodes nodes'

step_of : (rows : List (Vec ℕ Global)) (old new : Search) (nodes : List Vertex) (stack : List ℕ) (finished : ℕ) → new.nodes.items ≡ nodes → new.stack.items ≡ stack → new.finished ≡ finished → Stepped rows old.nodes.items nodes stack finished → IsStep rows old new
step_of rows old new nodes stack finished n s f h =
    let at_nodes : Stepped rows old.nodes.items new.nodes.items stack finished
    = subst (λ (x : List Vertex). Stepped rows old.nodes.items x stack finished) (sym n) h in
    let at_stack : Stepped rows old.nodes.items new.nodes.items new.stack.items finished
    = subst (λ (x : List ℕ). Stepped rows old.nodes.items new.nodes.items x finished) (sym s) at_nodes in
    let all : Stepped rows old.nodes.items new.nodes.items new.stack.items new.finished
    = subst (λ (x : ℕ). Stepped rows old.nodes.items new.nodes.items new.stack.items x) (sym f) at_stack in
    record { search = all.search; less = all.less; old_ones = all.old_ones }

pub done_new : Done ≡ New → ⊥
done_new e = cc

pub open_new : Open ≡ New → ⊥
open_new e = cc

pub cyclic_new : Cyclic ≡ New → ⊥
cyclic_new e = cc

done_open : Done ≡ Open → ⊥
done_open e = cc

done_cyclic : Done ≡ Cyclic → ⊥
done_cyclic e = cc

cyclic_open : Cyclic ≡ Open → ⊥
cyclic_open e = cc

cyclic_done : Cyclic ≡ Done → ⊥
cyclic_done e = cc

module _ (rows : List (Vec ℕ Global)) (nodes : List Vertex) (stack : List ℕ) (finished top : ℕ) (s : IsSearch rows nodes stack finished) (some : 1 ≤ length stack) (top_is : get_or stack (length stack - 1) 0 ≡ top) where
  abbrev n : ℕ
  n = length stack - 1

  len : length stack ≡ n + 1
  len = omega arith

  pub top_in : top < length nodes
  top_in = let h = s.inside n (omega arith) in subst (λ (x : ℕ). x < length nodes) top_is h

  open_top : (at nodes top).mark ≡ Open
  open_top = ap (λ x. (at nodes x).mark) (sym top_is) ∙ s.open_nodes n (omega arith)

  cost_top : cost (at nodes top) ≡ 1 + (at nodes top).left
  cost_top = ap (λ m. phase m + (at nodes top).left) open_top

  pending_top : is_pending (at nodes top) ≡ 1
  pending_top = ap pending open_top

  -- the counter of finished nodes has room
  pub room : finished + 1 ≤ length nodes
  room =
      let cleared = sum_set is_pending nodes top (record { mark = Done; left = 0; depth = 0 }) top_in in
      let old = s.count in
      let one = pending_top in
      omega arith

  -- all arrows to the top are followed
  depth_top : (at nodes top).left ≡ 0 → IsDepth (ArrowIn rows) top (at nodes top).depth
  depth_top none =
      let (start, chain) = s.reached top in
      depth_from_before (ArrowIn rows) top (at nodes top).depth start chain
      (λ q arrow. let (j, inside, is) = arrow in
      let (mark, less) = s.seen top j (omega arith) inside in
      let (small, depth) = s.done (get_or (row rows top) j 0) mark in
      ((at nodes q).depth, subst (λ (x : ℕ). (at nodes x).depth < (at nodes top).depth) is less, subst (λ (x : ℕ). IsDepth (ArrowIn rows) x (at nodes x).depth) is depth))

  finished_step : (at nodes top).left ≡ 0 → Stepped rows nodes (set nodes top (record { mark = Done; left = (at nodes top).left; depth = (at nodes top).depth })) (take n stack) (finished + 1)
  finished_step none = record {
    search = popped rows nodes stack finished (finished + 1) top n Done s len top_is done_open
        (λ e. (let h = s.small top in omega arith, depth_top none))
        (λ e. absurd (done_cyclic e)) (omega arith) (omega arith) refl;
    less =
        let sums = sum_set cost nodes top (record { mark = Done; left = (at nodes top).left; depth = (at nodes top).depth }) top_in in
        let was = cost_top in
        omega arith;
    old_ones = stays nodes top (record { mark = Done; left = (at nodes top).left; depth = (at nodes top).depth }) top_in done_new;
  }

  module _ (left : 1 ≤ (at nodes top).left) (p : ℕ) (p_is : get_or (row rows top) ((at nodes top).left - 1) 0 ≡ p) where
    arrow_top : ArrowIn rows p top
    arrow_top = let fits = s.left_fits top in ((at nodes top).left - 1, omega arith, p_is)

    arrow_stack : (i : ℕ) → length stack ≡ i + 1 → ArrowIn rows p (get_or stack i 0)
    arrow_stack i e =
        let same : n ≡ i = omega arith in
        subst (λ (x : ℕ). ArrowIn rows p x) (sym top_is ∙ ap (λ j. get_or stack j 0) same) arrow_top

    cornered_step : ((at nodes p).mark ≡ Open) ⊎ ((at nodes p).mark ≡ Cyclic) → Stepped rows nodes (set nodes top (record { mark = Cyclic; left = (at nodes top).left; depth = (at nodes top).depth })) (take n stack) finished
    cornered_step corner = record {
      search = popped rows nodes stack finished finished top n Cyclic s len top_is cyclic_open
          (λ e. absurd (cyclic_done e))
          (λ e. subst (λ (x : ℕ). IsBehindCycle (ArrowIn rows) x) top_is (cornered rows nodes stack finished n p s len (arrow_stack n len) corner n (omega arith)))
          (omega arith) (omega arith) refl;
      less =
          let sums = sum_set cost nodes top (record { mark = Cyclic; left = (at nodes top).left; depth = (at nodes top).depth }) top_in in
          let was = cost_top in
          omega arith;
      old_ones = stays nodes top (record { mark = Cyclic; left = (at nodes top).left; depth = (at nodes top).depth }) top_in cyclic_new;
    }

    followed_step : (at nodes p).mark ≡ Done → Stepped rows nodes (set nodes top (record { mark = Open; left = (at nodes top).left - 1; depth = max (at nodes top).depth ((at nodes p).depth + 1) })) stack finished
    followed_step is_done = record {
      search = advanced rows nodes stack finished top n s len top_is left p p_is is_done;
      less =
          let sums = sum_set cost nodes top (record { mark = Open; left = (at nodes top).left - 1; depth = max (at nodes top).depth ((at nodes p).depth + 1) }) top_in in
          let was = cost_top in
          omega arith;
      old_ones = stays nodes top (record { mark = Open; left = (at nodes top).left - 1; depth = max (at nodes top).depth ((at nodes p).depth + 1) }) top_in open_new;
    }

entered_step : (rows : List (Vec ℕ Global)) (nodes : List Vertex) (stack : List ℕ) (finished p : ℕ) → IsSearch rows nodes stack finished → p < length nodes → (at nodes p).mark ≡ New → ((n : ℕ) → length stack ≡ n + 1 → ArrowIn rows p (get_or stack n 0)) → Stepped rows nodes (set nodes p (record { mark = Open; left = (at nodes p).left; depth = (at nodes p).depth })) (stack ++ p ∷ []) finished
entered_step rows nodes stack finished p s inside is_new arrow = record {
  search = opened rows nodes stack finished p s inside is_new arrow;
  less =
      let sums = sum_set cost nodes p (record { mark = Open; left = (at nodes p).left; depth = (at nodes p).depth }) inside in
      let was : cost (at nodes p) ≡ 2 + (at nodes p).left = ap (λ m. phase m + (at nodes p).left) is_new in
      omega arith;
  old_ones = stays nodes p (record { mark = Open; left = (at nodes p).left; depth = (at nodes p).depth }) inside open_new;
}

-- ---- of searches

pub top_read : (stack : List ℕ) (i top : ℕ) → 1 ≤ length stack → i ≡ length stack → top ≡ get_or stack (i - 1) top → top ≡ get_or stack (length stack - 1) 0
top_read stack i top some is read =
    read ∙ ap (λ j. get_or stack (j - 1) top) is ∙ get_or_default stack (length stack - 1) top 0 (omega arith)

module _ (rows : List (Vec ℕ Global)) (old : Search) (are : AreRows rows) (s : IsSearching rows old) (some : 1 ≤ length old.stack.items) (top : ℕ) (top_is : top ≡ get_or old.stack.items (length old.stack.items - 1) 0) where
  pub top_there : top < length old.nodes.items
  top_there = top_in rows old.nodes.items old.stack.items old.finished top s some (sym top_is)

  pub fits_finish : old.finished + 1 < 2 ^ 32
  fits_finish =
      let r = room rows old.nodes.items old.stack.items old.finished top s some (sym top_is) in
      let few = are.few in
      let same = s.same_length in
      omega arith

  -- the node that is read at the top
  pub top_node : (node : Vertex) → node ≡ get_or old.nodes.items top node → node ≡ at old.nodes.items top
  top_node node read = read ∙ at_get old.nodes.items top node top_there

  pub finish_is : (node : Vertex) → node ≡ get_or old.nodes.items top node → node.left ≡ 0 → (new : Search) → new.nodes.items ≡ set old.nodes.items top (record { mark = Done; left = (at old.nodes.items top).left; depth = (at old.nodes.items top).depth }) → new.stack.items ≡ take (length old.stack.items - 1) old.stack.items → new.finished ≡ old.finished + 1 → IsStep rows old new
  finish_is node read none new nodes stack finished =
      step_of rows old new _ _ _ nodes stack finished
      (finished_step rows old.nodes.items old.stack.items old.finished top s some (sym top_is) (ap (λ v. v.left) (sym (top_node node read)) ∙ none))

  module _ (left : 1 ≤ (at old.nodes.items top).left) (p : ℕ) (p_is : p ≡ get_or (row rows top) ((at old.nodes.items top).left - 1) 0) where
    pub p_there : p < length old.nodes.items
    p_there =
        let fits = s.left_fits top in
        let inside = are.inside top ((at old.nodes.items top).left - 1) (omega arith) in
        subst (λ (x : ℕ). x < length old.nodes.items) (sym p_is) (subst (λ (m : ℕ). get_or (row rows top) ((at old.nodes.items top).left - 1) 0 < m) (sym s.same_length) inside)

    module _ (node : Vertex) (read : node ≡ get_or old.nodes.items p node) where
      node_is : node ≡ at old.nodes.items p
      node_is = read ∙ at_get old.nodes.items p node p_there

      mark_is : (m : Mark) → node.mark ≡ m → (at old.nodes.items p).mark ≡ m
      mark_is m e = ap (λ v. v.mark) (sym node_is) ∙ e

      pub fits_follow : node.mark ≡ Done → node.depth + 1 < 2 ^ 32
      fits_follow e =
          let (small, depth) = s.done p (mark_is Done e) in
          let count = s.count in
          let few = are.few in
          let same = s.same_length in
          let is : node.depth ≡ (at old.nodes.items p).depth = ap (λ v. v.depth) node_is in
          omega arith

      pub new_is : node.mark ≡ New → (new : Search) → new.nodes.items ≡ set old.nodes.items p (record { mark = Open; left = (at old.nodes.items p).left; depth = (at old.nodes.items p).depth }) → new.stack.items ≡ old.stack.items ++ p ∷ [] → new.finished ≡ old.finished → IsStep rows old new
      new_is e new nodes stack finished =
          step_of rows old new _ _ _ nodes stack finished
          (entered_step rows old.nodes.items old.stack.items old.finished p s p_there (mark_is New e) (arrow_stack rows old.nodes.items old.stack.items old.finished top s some (sym top_is) left p (sym p_is)))

      pub done_is : node.mark ≡ Done → (new : Search) → new.nodes.items ≡ set old.nodes.items top (record { mark = Open; left = (at old.nodes.items top).left - 1; depth = max (at old.nodes.items top).depth (node.depth + 1) }) → new.stack.items ≡ old.stack.items → new.finished ≡ old.finished → IsStep rows old new
      done_is e new nodes stack finished =
          step_of rows old new _ _ _ (nodes ∙ ap (λ v. set old.nodes.items top (record { mark = Open; left = (at old.nodes.items top).left - 1; depth = max (at old.nodes.items top).depth (v.depth + 1) })) node_is) stack finished
          (followed_step rows old.nodes.items old.stack.items old.finished top s some (sym top_is) left p (sym p_is) (mark_is Done e))

      corner_is : (node.mark ≡ Open) ⊎ (node.mark ≡ Cyclic) → (new : Search) → new.nodes.items ≡ set old.nodes.items top (record { mark = Cyclic; left = (at old.nodes.items top).left; depth = (at old.nodes.items top).depth }) → new.stack.items ≡ take (length old.stack.items - 1) old.stack.items → new.finished ≡ old.finished → IsStep rows old new
      corner_is corner new nodes stack finished =
          step_of rows old new _ _ _ nodes stack finished
          (cornered_step rows old.nodes.items old.stack.items old.finished top s some (sym top_is) left p (sym p_is) (elim corner as (λ _. ((at old.nodes.items p).mark ≡ Open) ⊎ ((at old.nodes.items p).mark ≡ Cyclic)) [
            | inl e ↦ inl (mark_is Open e)
            | inr e ↦ inr (mark_is Cyclic e)
          ]))

      pub open_is : node.mark ≡ Open → (new : Search) → new.nodes.items ≡ set old.nodes.items top (record { mark = Cyclic; left = (at old.nodes.items top).left; depth = (at old.nodes.items top).depth }) → new.stack.items ≡ take (length old.stack.items - 1) old.stack.items → new.finished ≡ old.finished → IsStep rows old new
      open_is e = corner_is (inl e)

      pub cyclic_is : node.mark ≡ Cyclic → (new : Search) → new.nodes.items ≡ set old.nodes.items top (record { mark = Cyclic; left = (at old.nodes.items top).left; depth = (at old.nodes.items top).depth }) → new.stack.items ≡ take (length old.stack.items - 1) old.stack.items → new.finished ≡ old.finished → IsStep rows old new
      cyclic_is e = corner_is (inr e)

-- a search begins with a new node
pub entered_is : (rows : List (Vec ℕ Global)) (old new : Search) → IsSearching rows old → (p : ℕ) → p < length old.nodes.items → (at old.nodes.items p).mark ≡ New → old.stack.items ≡ [] → new.nodes.items ≡ set old.nodes.items p (record { mark = Open; left = (at old.nodes.items p).left; depth = (at old.nodes.items p).depth }) → new.stack.items ≡ old.stack.items ++ p ∷ [] → new.finished ≡ old.finished → IsStep rows old new
entered_is rows old new s p inside is_new empty nodes stack finished =
    step_of rows old new _ _ _ nodes stack finished
    (entered_step rows old.nodes.items old.stack.items old.finished p s inside is_new
    (λ n e. absurd (let none : length old.stack.items ≡ 0 = ap length empty in omega arith)))

pub opened_is : (rows : List (Vec ℕ Global)) (old new : Search) (p : ℕ) → p < length old.nodes.items → new.nodes.items ≡ set old.nodes.items p (record { mark = Open; left = (at old.nodes.items p).left; depth = (at old.nodes.items p).depth }) → (at new.nodes.items p).mark ≡ New → ⊥
opened_is rows old new p inside nodes is =
    open_new (sym (ap (λ v. v.mark) (at_set old.nodes.items p _ inside)) ∙ ap (λ ns. (at ns p).mark) (sym nodes) ∙ is)

pub visited_more : (rows : List (Vec ℕ Global)) (start : ℕ) (old mid new : Search) → IsStep rows old mid → ((at mid.nodes.items start).mark ≡ New → ⊥) → IsVisit rows mid new → IsVisited rows start old new
visited_more rows start old mid new step opened visit = record {
  visit = record {
    search = visit.search;
    empty = visit.empty;
    old_ones = λ q was is. visit.old_ones q (step.old_ones q was) is;
  };
  old_one = visit.old_ones start opened;
}

-- a node that has an answer
pub visited_none : (rows : List (Vec ℕ Global)) (start : ℕ) (search : Search) → IsSearching rows search → search.stack.items ≡ [] → start < length rows → (node : Vertex) → node ≡ get_or search.nodes.items start node → (m : Mark) → node.mark ≡ m → (m ≡ New → ⊥) → IsVisited rows start search search
visited_none rows start search s empty inside node read m is old = record {
  visit = record { search = s; empty = empty; old_ones = λ q was is. was is };
  old_one = λ e.
      let same = s.same_length in
      old (sym is ∙ ap (λ v. v.mark) (read ∙ at_get search.nodes.items start node (omega arith)) ∙ e);
}

pub begin_mark : (rows : List (Vec ℕ Global)) (start : ℕ) (search : Search) → IsSearching rows search → start < length rows → (node : Vertex) → node ≡ get_or search.nodes.items start node → node.mark ≡ New → (at search.nodes.items start).mark ≡ New
begin_mark rows start search s inside node read is =
    let same = s.same_length in
    ap (λ v. v.mark) (sym (read ∙ at_get search.nodes.items start node (omega arith))) ∙ is

pub searched_none : (rows : List (Vec ℕ Global)) (search : Search) → search.nodes.items ≡ fresh rows → search.stack.items ≡ [] → search.finished ≡ 0 → HasSearched rows 0 search
searched_none rows search nodes stack finished = record {
  searching = subst (λ (f : ℕ). IsSearch rows search.nodes.items search.stack.items f) (sym finished)
      (subst (λ (x : List ℕ). IsSearch rows search.nodes.items x 0) (sym stack)
      (subst (λ (x : List Vertex). IsSearch rows x [] 0) (sym nodes) (started rows)));
  empty = stack;
  old_ones = λ q below is. absurd (omega arith);
}

pub searched_more : (rows : List (Vec ℕ Global)) (n : ℕ) (old new : Search) → HasSearched rows n old → IsVisited rows n old new → HasSearched rows (n + 1) new
searched_more rows n old new h v = record {
  searching = v.visit.search;
  empty = v.visit.empty;
  old_ones = λ q below is. elim (cases_eq q n) [
    | inl e ↦ v.old_one (ap (λ x. (at new.nodes.items x).mark) (sym e) ∙ is)
    | inr other ↦ v.visit.old_ones q (h.old_ones q (omega arith)) is
  ];
}

at_past : (nodes : List Vertex) (q : ℕ) (d : Option ℕ) → q < length nodes → get_or (map answer_of nodes) q d ≡ answer_of (at nodes q)
at_past [] q d h = absurd (omega arith)
at_past (x ∷ nodes) zero d h = refl
at_past (x ∷ nodes) (suc q) d h = at_past nodes q d (omega arith)

length-answers : (nodes : List Vertex) → length (map answer_of nodes) ≡ length nodes
length-answers [] = refl
length-answers (x ∷ nodes) = ap suc (length-answers nodes)

pub depths_are : (rows : List (Vec ℕ Global)) (search : Search) (answers : List (Option ℕ)) → HasSearched rows (length rows) search → answers ≡ map answer_of search.nodes.items → AreDepths rows answers
depths_are rows search answers h is = record {
  same_length = ap length is ∙ length-answers search.nodes.items ∙ h.searching.same_length;
  each = λ q inside.
      let same = h.searching.same_length in
      let below : q < length search.nodes.items = omega arith in
      let done : IsSearch rows search.nodes.items [] search.finished
      = subst (λ (x : List ℕ). IsSearch rows search.nodes.items x search.finished) h.empty h.searching in
      subst (λ (o : Option ℕ). IsLevelIn (ArrowIn rows) q o) (sym (ap (λ xs. get_or xs q None) is ∙ at_past search.nodes.items q None below))
      (answered_all rows search.nodes.items search.finished q done (at search.nodes.items q).mark refl (h.old_ones q inside));
}
