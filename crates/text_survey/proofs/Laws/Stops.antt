-- Where the survey stops, no modules go on.
use Rattle.std.proofs.Common.{◌≡◌, ◌-◌, ◌+◌, List, [], ◌∷◌, ◌++◌, length, take, drop, Option, Some, None, refl, sym, ap, subst, ◌∙◌, arith}
use Rattle.text_ground.specs.declared.dropped.Dropped.{Dropped}
use Rattle.rtl_tree.specs.Symbols.{Terminal}
use Rattle.rtl_tree.specs.TreeModule.{WrittenCircuit}
use Rattle.text_grammar.specs.GrammarModule.{AreSpelled}
use Rattle.text_survey.specs.declared.task.Task.{Task}
use Rattle.text_survey.specs.declared.task.Task.TheVariants as task
use Rattle.text_survey.specs.Rule.{rule}
use Rattle.text_survey.specs.Machine.{State, at, symbol_at, moved, next, Leads}
use Rattle.text_survey.specs.Surveys.{IsDead, start}
use Rattle.text_survey.specs.Depths.{none_read, reading}
use Rattle.text_survey.proofs.Laws.Steps.{one_end}
use Rattle.text_survey.proofs.Laws.Nests.{all_beside, in_circuit}
use Rattle.text_survey.proofs.Laws.Counts.{grow, leads}
use Rattle.text_survey.proofs.Laws.Ahead.{ahead}
use Rattle.text_survey.proofs.Laws.Items.{circuits_run}
use Rattle.std.proofs.lemmas.List.{length-append, take-append-drop}

none_same : (tasks : List Task) (r other : List Terminal) → symbol_at r ≡ symbol_at other → next tasks r ≡ None → next tasks other ≡ None
unfolding next
none_same [] r other e h = refl
none_same (t ∷ tasks) r other e h = none_by (rule t (symbol_at r)) (rule t (symbol_at other)) (ap (λ o. rule t o) e) h
  where
    none_by : (a b : Option _) → a ≡ b → moved a tasks r ≡ None → moved b tasks other ≡ None
    none_by None b e' h' = ap (λ o. moved o tasks other) (sym e')
    none_by (Some x) b e' h' = cc

take_front : {A : Type 0} (u v : List A) → take (length u) (u ++ v) ≡ u
take_front [] v = refl
take_front (x ∷ u) v = ap (λ xs. x ∷ xs) (take_front u v)

drop_front : {A : Type 0} (u v : List A) → drop (length u) (u ++ v) ≡ v
drop_front [] v = refl
drop_front (x ∷ u) v = drop_front u v

nothing_next : (r : List Terminal) → symbol_at r ≡ None → r ≡ []
nothing_next [] e = refl
nothing_next (t ∷ ts) e = cc

end_none : next [] [] ≡ None
unfolding next
end_none = refl

dead_after : (u r : List Terminal) (tasks : List Task) → ((other : List Terminal) → symbol_at r ≡ symbol_at other → Leads (start (u ++ other)) (at tasks other)) → next tasks r ≡ None → (tasks ≡ [] → r ≡ [] → ⊥)
    → (v : List Terminal) → symbol_at v ≡ symbol_at r → (regions : List Dropped) (cs : List WrittenCircuit) → AreSpelled regions (u ++ v) cs → ⊥
dead_after u r tasks f h open' v e regions cs s =
    let run = leads (reading (task.Source ∷ []) (u ++ v) none_read) (reading [] [] (grow (all_beside in_circuit cs) none_read)) ((circuits_run regions cs (u ++ v) s.spelled).runs [] none_read) in
    let same = one_end (start (u ++ v)) (at tasks v) (at [] []) (f v (sym e)) (none_same tasks r v (sym e) h) run end_none in
    open' (ap (λ (z : State). z.tasks) same) (nothing_next r (sym e ∙ ap (λ (z : State). symbol_at z.rest) same))

-- the tokens that were taken are dead with the next one
pub dead : (ts : List Terminal) (t : State) → Leads (start ts) t → next t.tasks t.rest ≡ None → (t.tasks ≡ [] → t.rest ≡ [] → ⊥) → IsDead ts (length ts - length t.rest)
dead ts t w h open' other same ahead' regions cs s =
    let a = ahead (start ts) t w in
    let long : length ts ≡ length a.0 + length t.rest = ap length a.1 ∙ length-append a.0 t.rest in
    let size : length ts - length t.rest ≡ length a.0 = omega (arith, long) in
    let front : take (length a.0) other ≡ a.0 =
    ap (λ n. take n other) (sym size) ∙ same ∙ ap (λ n. take n ts) size ∙ ap (take (length a.0)) a.1 ∙ take_front a.0 t.rest in
    let whole : other ≡ a.0 ++ drop (length a.0) other = sym (take-append-drop (length a.0) other) ∙ ap (λ xs. xs ++ drop (length a.0) other) front in
    let next_same : symbol_at (drop (length a.0) other) ≡ symbol_at t.rest =
    ap (λ n. symbol_at (drop n other)) (sym size) ∙ ahead' ∙ ap (λ n. symbol_at (drop n ts)) size ∙ ap (λ xs. symbol_at (drop (length a.0) xs)) a.1 ∙ ap symbol_at (drop_front a.0 t.rest) in
    dead_after a.0 t.rest t.tasks a.2 h open' (drop (length a.0) other) next_same regions cs (subst (λ xs. AreSpelled regions xs cs) whole s)
