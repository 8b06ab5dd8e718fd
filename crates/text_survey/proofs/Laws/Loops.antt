-- The loop of the survey.
use Rattle.std.proofs.Common.{◌≡◌, ℕ, ◌+◌, ◌*◌, ◌-◌, ◌<◌, ◌≤◌, Bool, true, false, List, [], ◌∷◌, ◌++◌, length, map, reverse, Option, Some, None, refl, sym, ap, subst, ◌∙◌, arith}
use Rattle.std.proofs.lemmas.List.{length-append, length-map}
use Rattle.rtl_tree.specs.declared.symbol.Terminal as code
use Rattle.rtl_tree.specs.Symbols.{Terminal, terminal}
use Rattle.text_survey.specs.declared.task.Task.{Task}
use Rattle.text_survey.specs.Rule.{rule}
use Rattle.text_survey.specs.Machine.{State, at, symbol_at, left, moved, next, Leads, Moves}
use Rattle.text_grammar.specs.Deeper.{too_deep, IsLeastPlace}
use Rattle.text_grammar.specs.declared.nesting.TheConstants.{MAX_NESTING}
use Rattle.text_survey.specs.Surveys.{start, IsDead, AreClosed, IsReached, SpellSomeThat}
use Rattle.text_survey.specs.declared.depths.Depths as kept
use Rattle.text_survey.specs.declared.task.Task.TheVariants as task
use Rattle.text_survey.specs.Table.{Step}
use Rattle.text_survey.specs.Depths.{Depths, none_read, nest_deeper, least_of, place, read_by, advanced, advance, Reading, reading, ReadsOn, IsKept}
use Rattle.text_survey.proofs.Profiles.{found, none_found}
use Rattle.text_survey.proofs.Laws.Counts.{grow, stays_read, more_read, one_end_read, leads}
use Rattle.text_survey.proofs.Laws.Nests.{all_beside, in_circuit}
use Rattle.text_survey.proofs.Laws.Places.{places}
use Rattle.text_survey.proofs.Laws.Items.{circuits_run}
use Rattle.text_survey.proofs.Stacks.{popped}
use Rattle.text_survey.proofs.Laws.Steps.{some_is, more}
use Rattle.text_survey.proofs.Laws.Ahead.{ahead}
use Rattle.text_survey.proofs.Laws.Weights.{load, smaller}
use Rattle.text_survey.proofs.Laws.Stops.{dead}
use Rattle.text_survey.proofs.Laws.Closed.{closed}
use Rattle.text_survey.proofs.Laws.Sound.{spelled}

no_both : (b : Bool) → b ≡ false → b ≡ true → ⊥
no_both b e f = cc

pub moves_on : (o : Option State) (said : Bool) (s : State) → said ≡ true → Moves o said s → o ≡ Some s
moves_on None said s e m = absurd (no_both said m e)
moves_on (Some a) said s e m = ap (λ x. Some x) (sym m.1)

pub moves_not : (o : Option State) (said : Bool) (s : State) → said ≡ false → Moves o said s → o ≡ None
moves_not None said s e m = refl
moves_not (Some a) said s e m = absurd (no_both said e m.0)

top : (items front : List Task) (t : Task) → items ≡ front ++ t ∷ [] → reverse items ≡ t ∷ reverse front
top items front t e = ap reverse e ∙ popped front t

pub on : (ts rest : List Terminal) (items front : List Task) (t : Task) (s : State) → items ≡ front ++ t ∷ [] → Leads (start ts) (at (reverse items) rest)
    → moved (rule t (symbol_at rest)) (reverse front) rest ≡ Some s → Leads (start ts) s
unfolding next
on ts rest items front t s e w m =
    more (start ts) (at (t ∷ reverse front) rest) s (subst (λ xs. Leads (start ts) (at xs rest)) (top items front t e) w) m

pub less : (ts : List code.Terminal) (rest : List code.Terminal) (items front after : List Task) (t : Task) → items ≡ front ++ t ∷ []
    → moved (rule t (symbol_at (map terminal ts))) (reverse front) (map terminal ts) ≡ Some (at (reverse after) (map terminal rest))
    → 512 * length rest + load (reverse after) < 512 * length ts + load (reverse items)
less ts rest items front after t e m =
    subst (λ xs. 512 * length rest + load (reverse after) < 512 * length ts + load xs) (sym (top items front t e))
    (omega (arith, smaller t (reverse front) (map terminal ts) (at (reverse after) (map terminal rest)) m, length-map ts terminal, length-map rest terminal))

-- what is known of a place where nothing more can be done
abbrev pub Stop : List Terminal → ℕ → Type 0
Stop ts n = (n ≤ length ts) × IsDead ts n × AreClosed ts n × IsReached ts n

pub within : (ts rest : List code.Terminal) (tasks : List Task) → Leads (start (map terminal ts)) (at tasks (map terminal rest)) → length rest ≤ length ts
within ts rest tasks w =
    let a = ahead (start (map terminal ts)) (at tasks (map terminal rest)) w in
    omega (arith, length-map ts terminal, length-map rest terminal, ap length a.1, length-append a.0 (map terminal rest))

stop_at : (ts rest : List code.Terminal) (tasks : List Task) → Leads (start (map terminal ts)) (at tasks (map terminal rest)) → next tasks (map terminal rest) ≡ None → (tasks ≡ [] → map terminal rest ≡ [] → ⊥)
    → Stop (map terminal ts) (length ts - length rest)
stop_at ts rest tasks w h open' =
    let d = dead (map terminal ts) (at tasks (map terminal rest)) w h open' in
    let size : length (map terminal ts) - length (map terminal rest) ≡ length ts - length rest = omega (arith, length-map ts terminal, length-map rest terminal) in
    let c = closed (map terminal ts) (at tasks (map terminal rest)) w in
    (omega (arith, length-map ts terminal), subst (λ n. IsDead (map terminal ts) n) size d, subst (λ n. AreClosed (map terminal ts) n) size c, (at tasks (map terminal rest), w, sym size))

pub stuck : (ts rest : List code.Terminal) (items front : List Task) (t : Task) → items ≡ front ++ t ∷ [] → Leads (start (map terminal ts)) (at (reverse items) (map terminal rest))
    → moved (rule t (symbol_at (map terminal rest))) (reverse front) (map terminal rest) ≡ None → Stop (map terminal ts) (length ts - length rest)
unfolding next
stuck ts rest items front t e w m =
    stop_at ts rest (t ∷ reverse front) (subst (λ xs. Leads (start (map terminal ts)) (at xs (map terminal rest))) (top items front t e) w) m (λ x y. cc)

pub over : (ts rest : List code.Terminal) (items : List Task) → items ≡ [] → Leads (start (map terminal ts)) (at (reverse items) (map terminal rest)) → (length rest ≡ 0 → ⊥)
    → Stop (map terminal ts) (length ts - length rest)
unfolding next
over ts rest items e w n =
    stop_at ts rest [] (subst (λ xs. Leads (start (map terminal ts)) (at (reverse xs) (map terminal rest))) e w) refl
    (λ x y. n (sym (length-map rest terminal) ∙ ap length y))

-- ---- what was read

-- the steps from the start, and what the code keeps of what was read
abbrev pub So : List Terminal → List Task → List Terminal → kept.Depths → Type 0
So ts tasks rest d = (s : Depths) × ReadsOn (reading (task.Source ∷ []) ts none_read) (reading tasks rest s) × IsKept d s

pub led : (ts rest : List Terminal) (tasks : List Task) (d : kept.Depths) → So ts tasks rest d → Leads (start ts) (at tasks rest)
led ts rest tasks d w = leads (reading (task.Source ∷ []) ts none_read) (reading tasks rest w.0) w.1

pub so_starts : (ts : List Terminal) (items : List Task) (d : kept.Depths) → items ≡ task.Source ∷ [] → IsKept d none_read → So ts (reverse items) ts d
so_starts ts items d e k = (none_read, subst (λ xs. ReadsOn (reading (task.Source ∷ []) ts none_read) (reading (reverse xs) ts none_read)) (sym e) (stays_read (reading (task.Source ∷ []) ts none_read)), k)

goes_by : (o : Option Step) (t : Task) (tasks : List Task) (ts : List Terminal) (d : Depths) (a : State) → moved o tasks ts ≡ Some a → advanced o t tasks ts d ≡ Some (reading a.tasks a.rest (read_by t o (place ts) d))
goes_by None t tasks ts d a e = cc
goes_by (Some step) t tasks ts d a e = ap (λ (z : State). Some (reading z.tasks z.rest (read_by t (Some step) (place ts) d))) (some_is (at (step.tasks ++ tasks) (left step.taking ts)) a e)

pub so_on : (ts rest : List Terminal) (items front : List Task) (t : Task) (a : State) (d d' : kept.Depths) → items ≡ front ++ t ∷ [] → So ts (reverse items) rest d → moved (rule t (symbol_at rest)) (reverse front) rest ≡ Some a
    → ((s : Depths) → IsKept d s → IsKept d' (read_by t (rule t (symbol_at rest)) (place rest) s)) → So ts a.tasks a.rest d'
unfolding advance
so_on ts rest items front t a d d' e w m k =
    let s = w.0 in
    let s' = read_by t (rule t (symbol_at rest)) (place rest) s in
    let before = subst (λ xs. ReadsOn (reading (task.Source ∷ []) ts none_read) (reading xs rest s)) (top items front t e) w.1 in
    (s', more_read (reading (task.Source ∷ []) ts none_read) (reading (t ∷ reverse front) rest s) (reading a.tasks a.rest s') before (goes_by (rule t (symbol_at rest)) t (reverse front) rest s a m), k s w.2)

nothing_on : (d : Depths) → advance [] [] d ≡ None
unfolding advance
nothing_on d = refl

-- what was read is what the modules are nested like
read_through : (ts : List Terminal) (s : Depths) → ReadsOn (reading (task.Source ∷ []) ts none_read) (reading [] [] s) → SpellSomeThat (λ cs. nest_deeper MAX_NESTING s.top ≡ too_deep cs) ts
read_through ts s w numbered regions =
    let v = spelled ts (leads (reading (task.Source ∷ []) ts none_read) (reading [] [] s) w) numbered regions in
    let all = grow (all_beside in_circuit v.0) none_read in
    let run = (circuits_run regions v.0 ts v.1.spelled).runs [] none_read in
    let same = one_end_read (reading (task.Source ∷ []) ts none_read) (reading [] [] s) (reading [] [] all) w (nothing_on s) run (nothing_on all) in
    (v.0, v.1, ap (λ (z : Reading). nest_deeper MAX_NESTING z.read.top) same ∙ places v.0)

at_end : (ts : List code.Terminal) (rest : List code.Terminal) (items : List Task) (d : kept.Depths) → items ≡ [] → length rest ≡ 0 → So (map terminal ts) (reverse items) (map terminal rest) d
    → (s : Depths) × ReadsOn (reading (task.Source ∷ []) (map terminal ts) none_read) (reading [] [] s) × IsKept d s
at_end ts [] items d e n w = subst (λ xs. So (map terminal ts) (reverse xs) [] d) e w
at_end ts (t ∷ rest) items d e n w = absurd (omega (arith, n))

-- nothing is nested too deep
pub through : (ts rest : List code.Terminal) (items : List Task) (d : kept.Depths) (found : Option ℕ) → items ≡ [] → length rest ≡ 0 → So (map terminal ts) (reverse items) (map terminal rest) d
    → ((s : Depths) → IsKept d s → found ≡ least_of (nest_deeper MAX_NESTING s.top)) → found ≡ None → SpellSomeThat (λ cs. too_deep cs ≡ []) (map terminal ts)
through ts rest items d found e n w f none numbered regions =
    let a = at_end ts rest items d e n w in
    let v = read_through (map terminal ts) a.0 a.1 numbered regions in
    (v.0, v.1, sym v.2 ∙ none_found (nest_deeper MAX_NESTING a.0.top) (sym (f a.0 a.2) ∙ none))

-- and here something is
pub through_deep : (ts rest : List code.Terminal) (items : List Task) (d : kept.Depths) (found' : Option ℕ) (place' : ℕ) → items ≡ [] → length rest ≡ 0 → So (map terminal ts) (reverse items) (map terminal rest) d
    → ((s : Depths) → IsKept d s → found' ≡ least_of (nest_deeper MAX_NESTING s.top)) → found' ≡ Some place' → SpellSomeThat (λ cs. IsLeastPlace (too_deep cs) place') (map terminal ts)
through_deep ts rest items d found' place' e n w f some numbered regions =
    let a = at_end ts rest items d e n w in
    let v = read_through (map terminal ts) a.0 a.1 numbered regions in
    (v.0, v.1, subst (λ xs. IsLeastPlace xs place') v.2 (found (nest_deeper MAX_NESTING a.0.top) place' (sym (f a.0 a.2) ∙ some)))
