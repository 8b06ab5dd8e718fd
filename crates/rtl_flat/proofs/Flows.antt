-- Tests of paths over statements in order and over the ways of a case.
use Rattle.std.proofs.Common.{ℕ, ◌≡◌, ◌∙◌, Bool, true, false, not, ◌&&◌, ◌||◌, List, refl, sym, ap}
use Rattle.rtl_flat.specs.Expression.{Tree}
use Rattle.rtl_flat.specs.Process.{Piece, Action, Set, If, Case, Block, Actions, Done, Then, Branches}
use Rattle.rtl_flat.specs.Paths.{Step, Read, Write, either, Flow, End, Last, More, some, some_way, every, every_way, first, first_way}
use Rattle.rtl_flat.specs.Flows.{reads, reads_all, labels_of, target_reads, may_target, targets, action_then, actions_then, other_flow, way_past, ways, is_complete}

or_assoc : (a b c : Bool) → (a || (b || c)) ≡ ((a || b) || c)
or_assoc true b c = refl
or_assoc false b c = refl

or_step : (a b r : Bool) → (a || (b || r)) ≡ ((a || (b || false)) || r)
or_step true b r = refl
or_step false true r = refl
or_step false false r = refl

-- the steps of a statement itself
abbrev pub set_reads : (ℕ → ℕ) → List Piece → Tree → Step
set_reads ws target value = Read (either (reads ws value) (target_reads ws target))

abbrev pub set_writes : (ℕ → ℕ) → List Piece → Bool → Step
set_writes ws target delayed = Write delayed (may_target ws target) (targets ws target)

abbrev pub case_reads : (ℕ → ℕ) → Tree → Branches → Step
case_reads ws selector branches = Read (either (reads ws selector) (reads_all ws (labels_of branches)))

-- ---- on some path

module _ (f : Step → Bool) (ws : ℕ → ℕ) where
  mutual
    pub some_action : (a : Action) (rest : Flow) → some f (action_then ws a rest) ≡ (some f (action_then ws a End) || some f rest)
    some_action (Set target value delayed spot) rest =
        or_step (f (set_reads ws target value)) (f (set_writes ws target delayed)) (some f rest)
    some_action (If test taken other spot) rest =
        or_step (f (Read (reads ws test))) (some_way f (More (other_flow ws other) (Last (actions_then ws taken End)))) (some f rest)
    some_action (Case kind full parallel selector branches fallback spot) rest =
        or_step (f (case_reads ws selector branches)) (some_way f (ways ws (way_past ws (is_complete ws kind full selector branches) fallback) branches)) (some f rest)
    some_action (Block body) rest = some_actions body rest

    pub some_actions : (b : Actions) (rest : Flow) → some f (actions_then ws b rest) ≡ (some f (actions_then ws b End) || some f rest)
    some_actions Done rest = refl
    some_actions (Then a b) rest =
        some_action a (actions_then ws b rest) ∙ ap (λ t. some f (action_then ws a End) || t) (some_actions b rest)
        ∙ or_assoc (some f (action_then ws a End)) (some f (actions_then ws b End)) (some f rest)
        ∙ ap (λ t. t || some f rest) (sym (some_action a (actions_then ws b End)))

  mutual
    pub every_action : (a : Action) (rest : Flow) → every f (action_then ws a rest) ≡ (every f (action_then ws a End) || every f rest)
    every_action (Set target value delayed spot) rest =
        or_step (f (set_reads ws target value)) (f (set_writes ws target delayed)) (every f rest)
    every_action (If test taken other spot) rest =
        or_step (f (Read (reads ws test))) (every_way f (More (other_flow ws other) (Last (actions_then ws taken End)))) (every f rest)
    every_action (Case kind full parallel selector branches fallback spot) rest =
        or_step (f (case_reads ws selector branches)) (every_way f (ways ws (way_past ws (is_complete ws kind full selector branches) fallback) branches)) (every f rest)
    every_action (Block body) rest = every_actions body rest

    pub every_actions : (b : Actions) (rest : Flow) → every f (actions_then ws b rest) ≡ (every f (actions_then ws b End) || every f rest)
    every_actions Done rest = refl
    every_actions (Then a b) rest =
        every_action a (actions_then ws b rest) ∙ ap (λ t. every f (action_then ws a End) || t) (every_actions b rest)
        ∙ or_assoc (every f (action_then ws a End)) (every f (actions_then ws b End)) (every f rest)
        ∙ ap (λ t. t || every f rest) (sym (every_action a (actions_then ws b End)))

-- ---- before another test passes

first_step : (fx gx fy gy r : Bool) → (fx || (not gx && (fy || (not gy && r)))) ≡ ((fx || (not gx && (fy || (not gy && false)))) || (not (gx || (gy || false)) && r))
first_step true gx fy gy r = refl
first_step false true fy gy r = refl
first_step false false true gy r = refl
first_step false false false true r = refl
first_step false false false false r = refl

first_join : (fa ga fb gb r : Bool) → (fa || (not ga && (fb || (not gb && r)))) ≡ ((fa || (not ga && fb)) || (not (ga || gb) && r))
first_join true ga fb gb r = refl
first_join false true fb gb r = refl
first_join false false true gb r = refl
first_join false false false true r = refl
first_join false false false false r = refl

module _ (f g : Step → Bool) (ws : ℕ → ℕ) where
  mutual
    pub first_action : (a : Action) (rest : Flow) → first f g (action_then ws a rest) ≡ (first f g (action_then ws a End) || (not (every g (action_then ws a End)) && first f g rest))
    first_action (Set target value delayed spot) rest =
        first_step (f (set_reads ws target value)) (g (set_reads ws target value)) (f (set_writes ws target delayed)) (g (set_writes ws target delayed)) (first f g rest)
    first_action (If test taken other spot) rest =
        first_step (f (Read (reads ws test))) (g (Read (reads ws test))) (first_way f g (More (other_flow ws other) (Last (actions_then ws taken End)))) (every_way g (More (other_flow ws other) (Last (actions_then ws taken End)))) (first f g rest)
    first_action (Case kind full parallel selector branches fallback spot) rest =
        first_step (f (case_reads ws selector branches)) (g (case_reads ws selector branches)) (first_way f g (ways ws (way_past ws (is_complete ws kind full selector branches) fallback) branches)) (every_way g (ways ws (way_past ws (is_complete ws kind full selector branches) fallback) branches)) (first f g rest)
    first_action (Block body) rest = first_actions body rest

    pub first_actions : (b : Actions) (rest : Flow) → first f g (actions_then ws b rest) ≡ (first f g (actions_then ws b End) || (not (every g (actions_then ws b End)) && first f g rest))
    first_actions Done rest = refl
    first_actions (Then a b) rest =
        let fa = first f g (action_then ws a End) in
        let ga = every g (action_then ws a End) in
        let fb = first f g (actions_then ws b End) in
        let gb = every g (actions_then ws b End) in
        first_action a (actions_then ws b rest) ∙ ap (λ t. fa || (not ga && t)) (first_actions b rest)
        ∙ first_join fa ga fb gb (first f g rest)
        ∙ ap (λ t. t || (not (ga || gb) && first f g rest)) (sym (first_action a (actions_then ws b End)))
        ∙ ap (λ t. first f g (actions_then ws (Then a b) End) || (not t && first f g rest)) (sym (every_action g ws a (actions_then ws b End)))
