-- Each step of a search keeps what holds of it.
use Rattle.std.proofs.Common.{ℕ, zero, suc, ◌≡◌, ◌∙◌, ◌<◌, ◌≤◌, ◌+◌, ◌-◌, max, arith, List, [], ◌∷◌, ◌++◌, length, get_or, take, refl, sym, ap, subst, inl, inr}
use Rattle.std.specs.Prelude.{Vec}
use Rattle.std.specs.declared.alloc.Global.{Global}
use Rattle.std.proofs.Math.ListN.{set, length-set}
use Rattle.std.proofs.lemmas.List.{get_or-take, length-take, length-append, get_or_push, get_or_append_left}
use Rattle.std.specs.Prelude.{◌⊎◌}
use Rattle.rtl_flat.specs.Levels.{IsLevelIn}
use Rattle.std.proofs.lemmas.Bool.{cases_lt, cases_eq}
use Rattle.rtl_flat.specs.Levels.{Chain, Here, Then, IsBehindCycle, IsDepth}
use Rattle.rtl_scan.specs.declared.graph.Mark.{Mark}
use Rattle.rtl_scan.specs.declared.graph.Mark.TheVariants.{New, Open, Done, Cyclic}
use Rattle.rtl_scan.specs.declared.graph.Vertex.{Vertex}
use Rattle.rtl_scan.specs.Graph.{row, ArrowIn, at, pending, is_pending, total, IsSearch, fresh, answer}
use Rattle.rtl_scan.proofs.Chains.{level_from_depth, closes, all_behind}

pub at_set : (nodes : List Vertex) (q : ℕ) (v : Vertex) → q < length nodes → at (set nodes q v) q ≡ v
at_set [] q v h = absurd (omega arith)
at_set (x ∷ nodes) zero v h = refl
at_set (x ∷ nodes) (suc q) v h = at_set nodes q v (omega arith)

pub at_other : (nodes : List Vertex) (q : ℕ) (v : Vertex) (r : ℕ) → (r ≡ q → ⊥) → at (set nodes q v) r ≡ at nodes r
at_other [] q v r h = refl
at_other (x ∷ nodes) zero v zero h = absurd (h refl)
at_other (x ∷ nodes) zero v (suc r) h = refl
at_other (x ∷ nodes) (suc q) v zero h = refl
at_other (x ∷ nodes) (suc q) v (suc r) h = at_other nodes q v r (λ e. h (ap suc e))

pub sum_set : (f : Vertex → ℕ) (nodes : List Vertex) (q : ℕ) (v : Vertex) → q < length nodes → total f (set nodes q v) + f (at nodes q) ≡ total f nodes + f v
sum_set f [] q v h = absurd (omega arith)
sum_set f (x ∷ nodes) zero v h = omega arith
sum_set f (x ∷ nodes) (suc q) v h = let rest = sum_set f nodes q v (omega arith) in omega arith

-- ---- the top of the stack leaves it, with an answer

module _ (rows : List (Vec ℕ Global)) (nodes : List Vertex) (stack : List ℕ) (finished finished' top n : ℕ) (m : Mark) (s : IsSearch rows nodes stack finished) (len : length stack ≡ n + 1) (top_is : get_or stack n 0 ≡ top) where
  abbrev answered : Vertex
  answered = record { mark = m; left = (at nodes top).left; depth = (at nodes top).depth }

  abbrev left_nodes : List Vertex
  left_nodes = set nodes top answered

  top_inside : top < length nodes
  top_inside = let h = s.inside n (omega arith) in subst (λ (x : ℕ). x < length nodes) top_is h

  top_open : (at nodes top).mark ≡ Open
  top_open = ap (λ x. (at nodes x).mark) (sym top_is) ∙ s.open_nodes n (omega arith)

  same_left : (q : ℕ) → (at left_nodes q).left ≡ (at nodes q).left
  same_left q =
      elim (cases_eq q top) [
        | inl e ↦ ap (λ x. (at left_nodes x).left) e ∙ ap (λ v. v.left) (at_set nodes top answered top_inside) ∙ ap (λ x. (at nodes x).left) (sym e)
        | inr other ↦ ap (λ v. v.left) (at_other nodes top answered q other)
      ]

  same_depth : (q : ℕ) → (at left_nodes q).depth ≡ (at nodes q).depth
  same_depth q =
      elim (cases_eq q top) [
        | inl e ↦ ap (λ x. (at left_nodes x).depth) e ∙ ap (λ v. v.depth) (at_set nodes top answered top_inside) ∙ ap (λ x. (at nodes x).depth) (sym e)
        | inr other ↦ ap (λ v. v.depth) (at_other nodes top answered q other)
      ]

  same_mark : (q : ℕ) → (q ≡ top → ⊥) → (at left_nodes q).mark ≡ (at nodes q).mark
  same_mark q other = ap (λ v. v.mark) (at_other nodes top answered q other)

  top_mark : (at left_nodes top).mark ≡ m
  top_mark = ap (λ v. v.mark) (at_set nodes top answered top_inside)

  below : (i : ℕ) → i < length (take n stack) → i < n
  below i h = omega (arith, length-take n stack)

  same_stack : (i : ℕ) → i < n → get_or (take n stack) i 0 ≡ get_or stack i 0
  same_stack i h = get_or-take n stack i 0 h

  not_top : (i : ℕ) → i < n → get_or stack i 0 ≡ top → ⊥
  not_top i h e = s.apart i n h (omega arith) (e ∙ sym top_is)

  pub popped : (m ≡ Open → ⊥) → (m ≡ Done → ((at nodes top).depth < finished') × IsDepth (ArrowIn rows) top (at nodes top).depth) → (m ≡ Cyclic → IsBehindCycle (ArrowIn rows) top) → finished ≤ finished' → finished' ≤ finished + 1 → is_pending answered ≡ 0 → IsSearch rows left_nodes (take n stack) finished'
  popped not_open if_done if_cyclic grows slowly answer = record {
    same_length = length-set nodes top answered ∙ s.same_length;
    inside = λ i h.
        let k = below i h in
        let e = same_stack i k in
        let old = s.inside i (omega arith) in
        omega (arith, length-set nodes top answered);
    open_nodes = λ i h.
        let k = below i h in
        ap (λ x. (at left_nodes x).mark) (same_stack i k) ∙ same_mark (get_or stack i 0) (not_top i k) ∙ s.open_nodes i (omega arith);
    on_stack = λ q h. elim (cases_eq q top) [
      | inl e ↦ absurd (not_open (sym top_mark ∙ ap (λ x. (at left_nodes x).mark) (sym e) ∙ h))
      | inr other ↦
          let (i, less, is) = s.on_stack q (sym (same_mark q other) ∙ h) in
          let apart_from : i ≡ n → ⊥ = λ e. other (sym is ∙ ap (λ j. get_or stack j 0) e ∙ top_is) in
          let k : i < n = omega arith in
          let there : i < length (take n stack) = omega (arith, length-take n stack) in
          (i, there, same_stack i k ∙ is)
    ];
    apart = λ i j h k e.
        let j_below = below j k in
        let i_below : i < n = omega arith in
        s.apart i j h (omega arith) (sym (same_stack i i_below) ∙ e ∙ same_stack j j_below);
    trail = λ i h.
        let k = below (i + 1) h in
        let i_below : i < n = omega arith in
        subst (λ (x : ℕ). ArrowIn rows x (get_or (take n stack) i 0)) (sym (same_stack (i + 1) k))
        (subst (λ (x : ℕ). ArrowIn rows (get_or stack (i + 1) 0) x) (sym (same_stack i i_below)) (s.trail i (omega arith)));
    done = λ q h. elim (cases_eq q top) [
      | inl e ↦
          let is : m ≡ Done = sym top_mark ∙ ap (λ x. (at left_nodes x).mark) (sym e) ∙ h in
          let depth : (at nodes top).depth ≡ (at left_nodes q).depth = ap (λ x. (at nodes x).depth) (sym e) ∙ sym (same_depth q) in
          let both = if_done is in
          let less : (at left_nodes q).depth < finished' = subst (λ (d : ℕ). d < finished') depth both.0 in
          (less, subst (λ (d : ℕ). IsDepth (ArrowIn rows) q d) depth (subst (λ (x : ℕ). IsDepth (ArrowIn rows) x (at nodes top).depth) (sym e) both.1))
      | inr other ↦
          let both = s.done q (sym (same_mark q other) ∙ h) in
          let depth = sym (same_depth q) in
          let less : (at nodes q).depth < finished' = omega (arith, both.0) in
          (subst (λ (d : ℕ). d < finished') depth less, subst (λ (d : ℕ). IsDepth (ArrowIn rows) q d) depth both.1)
    ];
    cyclic = λ q h. elim (cases_eq q top) [
      | inl e ↦ subst (λ (x : ℕ). IsBehindCycle (ArrowIn rows) x) (sym e) (if_cyclic (sym top_mark ∙ ap (λ x. (at left_nodes x).mark) (sym e) ∙ h))
      | inr other ↦ s.cyclic q (sym (same_mark q other) ∙ h)
    ];
    left_fits = λ q. let old = s.left_fits q in omega (arith, same_left q);
    seen = λ q j from inside.
        let (mark, less) = s.seen q j (omega (arith, same_left q)) inside in
        let r = get_or (row rows q) j 0 in
        let other : r ≡ top → ⊥ = λ e. different (sym mark ∙ ap (λ x. (at nodes x).mark) e ∙ top_open) in
        (same_mark r other ∙ mark, omega (arith, same_depth r, same_depth q, less));
    reached = λ q.
        let (start, chain) = s.reached q in
        (start, subst (λ (d : ℕ). Chain (ArrowIn rows) d start q) (sym (same_depth q)) chain);
    small = λ q. let old = s.small q in omega (arith, same_depth q);
    count =
        let before = sum_set is_pending nodes top answered top_inside in
        let was : is_pending (at nodes top) ≡ 1 = pending_open (at nodes top) top_open in
        let old = s.count in
        omega (arith, length-set nodes top answered);
  }
    where
      different : Done ≡ Open → ⊥
      different e = cc

      pending_open : (v : Vertex) → v.mark ≡ Open → is_pending v ≡ 1
      pending_open v e = ap pending e

-- ---- an arrow from a node that is done

module _ (rows : List (Vec ℕ Global)) (nodes : List Vertex) (stack : List ℕ) (finished top n : ℕ) (s : IsSearch rows nodes stack finished) (len : length stack ≡ n + 1) (top_is : get_or stack n 0 ≡ top) (some : 1 ≤ (at nodes top).left) (p : ℕ) (p_is : get_or (row rows top) ((at nodes top).left - 1) 0 ≡ p) (is_done : (at nodes p).mark ≡ Done) where
  abbrev followed : Vertex
  followed = record { mark = Open; left = (at nodes top).left - 1; depth = max (at nodes top).depth ((at nodes p).depth + 1) }

  abbrev next_nodes : List Vertex
  next_nodes = set nodes top followed

  here_inside : top < length nodes
  here_inside = let h = s.inside n (omega arith) in subst (λ (x : ℕ). x < length nodes) top_is h

  here_open : (at nodes top).mark ≡ Open
  here_open = ap (λ x. (at nodes x).mark) (sym top_is) ∙ s.open_nodes n (omega arith)

  mark_kept : (q : ℕ) → (at next_nodes q).mark ≡ (at nodes q).mark
  mark_kept q =
      elim (cases_eq q top) [
        | inl e ↦ ap (λ x. (at next_nodes x).mark) e ∙ ap (λ v. v.mark) (at_set nodes top followed here_inside) ∙ sym here_open ∙ ap (λ x. (at nodes x).mark) (sym e)
        | inr other ↦ ap (λ v. v.mark) (at_other nodes top followed q other)
      ]

  left_here : (at next_nodes top).left ≡ (at nodes top).left - 1
  left_here = ap (λ v. v.left) (at_set nodes top followed here_inside)

  left_there : (q : ℕ) → (q ≡ top → ⊥) → (at next_nodes q).left ≡ (at nodes q).left
  left_there q other = ap (λ v. v.left) (at_other nodes top followed q other)

  depth_here : (at next_nodes top).depth ≡ max (at nodes top).depth ((at nodes p).depth + 1)
  depth_here = ap (λ v. v.depth) (at_set nodes top followed here_inside)

  depth_there : (q : ℕ) → (q ≡ top → ⊥) → (at next_nodes q).depth ≡ (at nodes q).depth
  depth_there q other = ap (λ v. v.depth) (at_other nodes top followed q other)

  not_done : (r : ℕ) → (at nodes r).mark ≡ Done → r ≡ top → ⊥
  not_done r mark e = different (sym mark ∙ ap (λ x. (at nodes x).mark) e ∙ here_open)
    where
      different : Done ≡ Open → ⊥
      different e' = cc

  arrow : ArrowIn rows p top
  arrow = let fits = s.left_fits top in ((at nodes top).left - 1, omega arith, p_is)

  reached_here : (start : ℕ) × Chain (ArrowIn rows) (max (at nodes top).depth ((at nodes p).depth + 1)) start top
  reached_here =
      elim (cases_lt (at nodes top).depth ((at nodes p).depth + 1)) [
        | inl deeper ↦
            let (start, chain) = s.reached p in
            let is : suc (at nodes p).depth ≡ max (at nodes top).depth ((at nodes p).depth + 1) = omega arith in
            (start, subst (λ (d : ℕ). Chain (ArrowIn rows) d start top) is (Then (at nodes p).depth start p top chain arrow))
        | inr shallow ↦
            let (start, chain) = s.reached top in
            let is : (at nodes top).depth ≡ max (at nodes top).depth ((at nodes p).depth + 1) = omega arith in
            (start, subst (λ (d : ℕ). Chain (ArrowIn rows) d start top) is chain)
      ]

  pub advanced : IsSearch rows next_nodes stack finished
  advanced = record {
    same_length = length-set nodes top followed ∙ s.same_length;
    inside = λ i h. let old = s.inside i h in omega (arith, length-set nodes top followed);
    open_nodes = λ i h. mark_kept (get_or stack i 0) ∙ s.open_nodes i h;
    on_stack = λ q h. s.on_stack q (sym (mark_kept q) ∙ h);
    apart = s.apart;
    trail = s.trail;
    done = λ q h.
        let mark = sym (mark_kept q) ∙ h in
        let same = sym (depth_there q (not_done q mark)) in
        let both = s.done q mark in
        (subst (λ (d : ℕ). d < finished) same both.0, subst (λ (d : ℕ). IsDepth (ArrowIn rows) q d) same both.1);
    cyclic = λ q h. s.cyclic q (sym (mark_kept q) ∙ h);
    left_fits = λ q. elim (cases_eq q top) [
      | inl e ↦ let old = s.left_fits top in
          let here : (at next_nodes top).left ≤ length (row rows top) = omega (arith, left_here) in
          subst (λ (x : ℕ). (at next_nodes x).left ≤ length (row rows x)) (sym e) here
      | inr other ↦ let old = s.left_fits q in omega (arith, left_there q other)
    ];
    seen = λ q j from inside. elim (cases_eq q top) [
      | inl e ↦
          let from' : (at next_nodes top).left ≤ j = subst (λ (x : ℕ). (at next_nodes x).left ≤ j) e from in
          let inside' : j < length (row rows top) = subst (λ (x : ℕ). j < length (row rows x)) e inside in
          subst (λ (x : ℕ). ((at next_nodes (get_or (row rows x) j 0)).mark ≡ Done) × ((at next_nodes (get_or (row rows x) j 0)).depth < (at next_nodes x).depth)) (sym e) (seen_here j from' inside')
      | inr other ↦
          let (mark, less) = s.seen q j (omega (arith, left_there q other)) inside in
          let r = get_or (row rows q) j 0 in
          (mark_kept r ∙ mark, omega (arith, depth_there r (not_done r mark), depth_there q other, less))
    ];
    reached = λ q. elim (cases_eq q top) [
      | inl e ↦
          let (start, chain) = reached_here in
          (start, subst (λ (x : ℕ). Chain (ArrowIn rows) (at next_nodes x).depth start x) (sym e) (subst (λ (d : ℕ). Chain (ArrowIn rows) d start top) (sym depth_here) chain))
      | inr other ↦
          let (start, chain) = s.reached q in
          (start, subst (λ (d : ℕ). Chain (ArrowIn rows) d start q) (sym (depth_there q other)) chain)
    ];
    small = λ q. elim (cases_eq q top) [
      | inl e ↦
          let old = s.small top in
          let less = (s.done p is_done).0 in
          let here : (at next_nodes top).depth ≤ finished = omega (arith, depth_here) in
          subst (λ (x : ℕ). (at next_nodes x).depth ≤ finished) (sym e) here
      | inr other ↦ let old = s.small q in omega (arith, depth_there q other)
    ];
    count =
        let before = sum_set is_pending nodes top followed here_inside in
        let was : is_pending (at nodes top) ≡ 1 = ap pending here_open in
        let old = s.count in
        omega (arith, length-set nodes top followed);
  }
    where
      seen_here : (j : ℕ) → (at next_nodes top).left ≤ j → j < length (row rows top) → ((at next_nodes (get_or (row rows top) j 0)).mark ≡ Done) × ((at next_nodes (get_or (row rows top) j 0)).depth < (at next_nodes top).depth)
      seen_here j from inside =
          elim (cases_eq j ((at nodes top).left - 1)) [
            | inl e ↦
                let is : get_or (row rows top) j 0 ≡ p = ap (λ i. get_or (row rows top) i 0) e ∙ p_is in
                let less : (at next_nodes p).depth < (at next_nodes top).depth = omega (arith, depth_there p (not_done p is_done), depth_here) in
                subst (λ (x : ℕ). ((at next_nodes x).mark ≡ Done) × ((at next_nodes x).depth < (at next_nodes top).depth)) (sym is) (mark_kept p ∙ is_done, less)
            | inr past ↦
                let above : (at nodes top).left ≤ j = omega (arith, left_here) in
                let (mark, less) = s.seen top j above inside in
                let r = get_or (row rows top) j 0 in
                (mark_kept r ∙ mark, omega (arith, depth_there r (not_done r mark), depth_here, less))
          ]

-- ---- a new node goes on the stack

module _ (rows : List (Vec ℕ Global)) (nodes : List Vertex) (stack : List ℕ) (finished p : ℕ) (s : IsSearch rows nodes stack finished) (p_inside : p < length nodes) (is_new : (at nodes p).mark ≡ New) (arrow : (n : ℕ) → length stack ≡ n + 1 → ArrowIn rows p (get_or stack n 0)) where
  abbrev entered : Vertex
  entered = record { mark = Open; left = (at nodes p).left; depth = (at nodes p).depth }

  abbrev more_nodes : List Vertex
  more_nodes = set nodes p entered

  left_still : (q : ℕ) → (at more_nodes q).left ≡ (at nodes q).left
  left_still q =
      elim (cases_eq q p) [
        | inl e ↦ ap (λ x. (at more_nodes x).left) e ∙ ap (λ v. v.left) (at_set nodes p entered p_inside) ∙ ap (λ x. (at nodes x).left) (sym e)
        | inr other ↦ ap (λ v. v.left) (at_other nodes p entered q other)
      ]

  depth_still : (q : ℕ) → (at more_nodes q).depth ≡ (at nodes q).depth
  depth_still q =
      elim (cases_eq q p) [
        | inl e ↦ ap (λ x. (at more_nodes x).depth) e ∙ ap (λ v. v.depth) (at_set nodes p entered p_inside) ∙ ap (λ x. (at nodes x).depth) (sym e)
        | inr other ↦ ap (λ v. v.depth) (at_other nodes p entered q other)
      ]

  mark_there : (q : ℕ) → (q ≡ p → ⊥) → (at more_nodes q).mark ≡ (at nodes q).mark
  mark_there q other = ap (λ v. v.mark) (at_other nodes p entered q other)

  mark_here : (at more_nodes p).mark ≡ Open
  mark_here = ap (λ v. v.mark) (at_set nodes p entered p_inside)

  -- a node with another mark is another node
  other_node : (q : ℕ) (m : Mark) → (at nodes q).mark ≡ m → (m ≡ New → ⊥) → q ≡ p → ⊥
  other_node q m mark not_new e = not_new (sym mark ∙ ap (λ x. (at nodes x).mark) e ∙ is_new)

  open_new : Open ≡ New → ⊥
  open_new e = cc

  done_new : Done ≡ New → ⊥
  done_new e = cc

  open_done : Open ≡ Done → ⊥
  open_done e = cc

  open_cyclic : Open ≡ Cyclic → ⊥
  open_cyclic e = cc

  abbrev higher : List ℕ
  higher = stack ++ p ∷ []

  length_higher : length higher ≡ length stack + 1
  length_higher = length-append stack (p ∷ [])

  old_stack : (i : ℕ) → i < length stack → get_or higher i 0 ≡ get_or stack i 0
  old_stack i h = get_or_append_left stack (p ∷ []) 0 i h

  new_stack : (i : ℕ) → length stack ≡ i → get_or higher i 0 ≡ p
  new_stack i e = get_or_push stack p 0 i e

  pub opened : IsSearch rows more_nodes higher finished
  opened = record {
    same_length = length-set nodes p entered ∙ s.same_length;
    inside = λ i h. elim (cases_lt i (length stack)) [
      | inl below ↦ let old = s.inside i below in omega (arith, length-set nodes p entered, old_stack i below)
      | inr above ↦ let end : length stack ≡ i = omega (arith, length_higher) in omega (arith, length-set nodes p entered, new_stack i end)
    ];
    open_nodes = λ i h. elim (cases_lt i (length stack)) [
      | inl below ↦ ap (λ x. (at more_nodes x).mark) (old_stack i below) ∙ mark_there (get_or stack i 0) (other_node (get_or stack i 0) Open (s.open_nodes i below) open_new) ∙ s.open_nodes i below
      | inr above ↦ let end : length stack ≡ i = omega (arith, length_higher) in ap (λ x. (at more_nodes x).mark) (new_stack i end) ∙ mark_here
    ];
    on_stack = λ q h. elim (cases_eq q p) [
      | inl e ↦ (length stack, omega (arith, length_higher), new_stack (length stack) refl ∙ sym e)
      | inr other ↦
          let (i, less, is) = s.on_stack q (sym (mark_there q other) ∙ h) in
          (i, omega (arith, length_higher), old_stack i less ∙ is)
    ];
    apart = λ i j h k e.
        let i_below : i < length stack = omega (arith, length_higher) in
        let first = old_stack i i_below in
        elim (cases_lt j (length stack)) [
          | inl below ↦ s.apart i j h below (sym first ∙ e ∙ old_stack j below)
          | inr above ↦
              let end : length stack ≡ j = omega (arith, length_higher) in
              other_node (get_or stack i 0) Open (s.open_nodes i i_below) open_new (sym first ∙ e ∙ new_stack j end)
        ];
    trail = λ i h.
        let i_below : i < length stack = omega (arith, length_higher) in
        subst (λ (x : ℕ). ArrowIn rows (get_or higher (i + 1) 0) x) (sym (old_stack i i_below)) (elim (cases_lt (i + 1) (length stack)) as (λ _. ArrowIn rows (get_or higher (i + 1) 0) (get_or stack i 0)) [
          | inl below ↦ subst (λ (x : ℕ). ArrowIn rows x (get_or stack i 0)) (sym (old_stack (i + 1) below)) (s.trail i below)
          | inr above ↦
              let end : length stack ≡ i + 1 = omega (arith, length_higher) in
              subst (λ (x : ℕ). ArrowIn rows x (get_or stack i 0)) (sym (new_stack (i + 1) end)) (arrow i end)
        ]);
    done = λ q h. elim (cases_eq q p) [
      | inl e ↦ absurd (open_done (sym mark_here ∙ ap (λ x. (at more_nodes x).mark) (sym e) ∙ h))
      | inr other ↦
          let both = s.done q (sym (mark_there q other) ∙ h) in
          let same = sym (depth_still q) in
          (subst (λ (d : ℕ). d < finished) same both.0, subst (λ (d : ℕ). IsDepth (ArrowIn rows) q d) same both.1)
    ];
    cyclic = λ q h. elim (cases_eq q p) [
      | inl e ↦ absurd (open_cyclic (sym mark_here ∙ ap (λ x. (at more_nodes x).mark) (sym e) ∙ h))
      | inr other ↦ s.cyclic q (sym (mark_there q other) ∙ h)
    ];
    left_fits = λ q. let old = s.left_fits q in omega (arith, left_still q);
    seen = λ q j from inside.
        let (mark, less) = s.seen q j (omega (arith, left_still q)) inside in
        let r = get_or (row rows q) j 0 in
        (mark_there r (other_node r Done mark done_new) ∙ mark, omega (arith, depth_still r, depth_still q, less));
    reached = λ q.
        let (start, chain) = s.reached q in
        (start, subst (λ (d : ℕ). Chain (ArrowIn rows) d start q) (sym (depth_still q)) chain);
    small = λ q. let old = s.small q in omega (arith, depth_still q);
    count =
        let before = sum_set is_pending nodes p entered p_inside in
        let was : is_pending (at nodes p) ≡ 1 = ap pending is_new in
        let old = s.count in
        omega (arith, length-set nodes p entered);
  }

-- ---- the stack stands behind a cycle

pub cornered : (rows : List (Vec ℕ Global)) (nodes : List Vertex) (stack : List ℕ) (finished n p : ℕ) → (s : IsSearch rows nodes stack finished) → length stack ≡ n + 1 → ArrowIn rows p (get_or stack n 0) → ((at nodes p).mark ≡ Open) ⊎ ((at nodes p).mark ≡ Cyclic) → (i : ℕ) → i < length stack → IsBehindCycle (ArrowIn rows) (get_or stack i 0)
cornered rows nodes stack finished n p s len arrow (inl is_open) i h =
    let (at_place, less, is) = s.on_stack p is_open in
    all_behind (ArrowIn rows) stack s.trail n p len (closes (ArrowIn rows) stack s.trail n at_place p (omega arith) (omega arith) (sym is) arrow) arrow i h
cornered rows nodes stack finished n p s len arrow (inr is_cyclic) i h =
    all_behind (ArrowIn rows) stack s.trail n p len (s.cyclic p is_cyclic) arrow i h

-- ---- the start and the end

row_fresh : (rows : List (Vec ℕ Global)) (q : ℕ) → (at (fresh rows) q).left ≡ length (row rows q)
row_fresh [] q = refl
row_fresh (v ∷ rows) zero = refl
row_fresh (v ∷ rows) (suc q) = row_fresh rows q

depth_fresh : (rows : List (Vec ℕ Global)) (q : ℕ) → (at (fresh rows) q).depth ≡ 0
depth_fresh [] q = refl
depth_fresh (v ∷ rows) zero = refl
depth_fresh (v ∷ rows) (suc q) = depth_fresh rows q

mark_fresh : (rows : List (Vec ℕ Global)) (q : ℕ) → (at (fresh rows) q).mark ≡ New
mark_fresh [] q = refl
mark_fresh (v ∷ rows) zero = refl
mark_fresh (v ∷ rows) (suc q) = mark_fresh rows q

length_fresh : (rows : List (Vec ℕ Global)) → length (fresh rows) ≡ length rows
length_fresh [] = refl
length_fresh (v ∷ rows) = let rest = length_fresh rows in omega arith

total_fresh : (rows : List (Vec ℕ Global)) → total is_pending (fresh rows) ≡ length (fresh rows)
total_fresh [] = refl
total_fresh (v ∷ rows) = let rest = total_fresh rows in omega arith

pub started : (rows : List (Vec ℕ Global)) → IsSearch rows (fresh rows) [] 0
started rows = record {
  same_length = length_fresh rows;
  inside = λ i h. absurd (omega arith);
  open_nodes = λ i h. absurd (omega arith);
  on_stack = λ q h. absurd (let e : New ≡ Open = sym (mark_fresh rows q) ∙ h in cc);
  apart = λ i j h k e. omega arith;
  trail = λ i h. absurd (omega arith);
  done = λ q h. absurd (let e : New ≡ Done = sym (mark_fresh rows q) ∙ h in cc);
  cyclic = λ q h. absurd (let e : New ≡ Cyclic = sym (mark_fresh rows q) ∙ h in cc);
  left_fits = λ q. omega (arith, row_fresh rows q);
  seen = λ q j from inside. absurd (omega (arith, row_fresh rows q));
  reached = λ q. (q, subst (λ (d : ℕ). Chain (ArrowIn rows) d q q) (sym (depth_fresh rows q)) (Here q));
  small = λ q. omega (arith, depth_fresh rows q);
  count = omega (arith, total_fresh rows);
}

pub answered_all : (rows : List (Vec ℕ Global)) (nodes : List Vertex) (finished q : ℕ) → IsSearch rows nodes [] finished → (m : Mark) → (at nodes q).mark ≡ m → (m ≡ New → ⊥) → IsLevelIn (ArrowIn rows) q (answer m (at nodes q).depth)
answered_all rows nodes finished q s New is not_new = absurd (not_new refl)
answered_all rows nodes finished q s Open is not_new = let (i, less, e) = s.on_stack q is in absurd (omega arith)
answered_all rows nodes finished q s Done is not_new = level_from_depth (ArrowIn rows) q (at nodes q).depth (s.done q is).1
answered_all rows nodes finished q s Cyclic is not_new = s.cyclic q is
