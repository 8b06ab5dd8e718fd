-- Gates as assignments: those of one gate after another.
use Rattle.std.specs.Prelude.{ℕ, zero, suc, ◌+◌, ◌-◌, ◌<◌, ◌≤◌, drop, length, List, [], ◌∷◌, ◌++◌, map, Option, Some}
use Rattle.std.specs.List.{slice_get}
use Rattle.std.specs.Option.{option_map}
use Rattle.std.proofs.Common.{◌≡◌, ◌∙◌, ap, refl, sym, arith, append_assoc, get_or}
use Rattle.std.proofs.lemmas.List.{at_drop_more, length-append, map-append}
use Rattle.std.proofs.lemmas.Option.{slice_get_within}
use Rattle.rtl_tree.specs.declared.tree.item.GateDrive.{GateDrive as Driven}
use Rattle.rtl_tree.specs.declared.tree.stmt.Lvalue.{Lvalue}
use Rattle.rtl_tree.specs.TreeExpr.{Formula, formula}
use Rattle.rtl_tree.specs.TreeStmt.{Pause, target, target_place}
use Rattle.rtl_tree.specs.TreeItem.{Drive, gate_drive}
use Rattle.elab_body.specs.elab_scope.Names.{Meanings}
use Rattle.elab_body.specs.Bodies.{pause_steps}
use Rattle.elab_body.specs.Steps.{Step}
use Rattle.elab_parts.specs.Gates.{assignments_of, output_drives}
use Rattle.elab_parts.specs.Items.{assignment_steps, drive_places, drive_steps}
use Rattle.elab_parts.specs.Tasks.{assigned_task, drive_tasks}

pub steps_append : (scope : Meanings) (pause : Option Pause) (xs ys : List Drive)
    → drive_steps scope pause (xs ++ ys) ≡ drive_steps scope pause xs ++ drive_steps scope pause ys
steps_append scope pause [] ys = refl
steps_append scope pause (x ∷ xs) ys =
    let own : List Step = pause_steps pause ++ assignment_steps scope x.target x.value in
    ap (λ zs. own ++ zs) (steps_append scope pause xs ys)
    ∙ sym (append_assoc own (drive_steps scope pause xs) (drive_steps scope pause ys))

pub tasks_append : (file base instance : ℕ) (scope : Meanings) (xs ys : List Drive)
    → drive_tasks file base instance scope (xs ++ ys) ≡ drive_tasks file base instance scope xs ++ drive_tasks file base instance scope ys
tasks_append file base instance scope [] ys = refl
tasks_append file base instance scope (x ∷ xs) ys =
    ap (λ zs. assigned_task file base instance scope x.target x.value ∷ zs) (tasks_append file base instance scope xs ys)

-- outputs have as many processes as they are, each at its own place
pub output_count : (value : Formula) (outputs : List Lvalue) → length (drive_places (output_drives value (map target outputs))) ≡ length outputs
output_count value [] = refl
output_count value (x ∷ outputs) =
    let more : length (drive_places (output_drives value (map target outputs))) ≡ length outputs = output_count value outputs in
    omega arith

pub output_got : (value : Formula) (outputs : List Lvalue) (k : ℕ)
    → slice_get (drive_places (output_drives value (map target outputs))) k ≡ option_map (λ one. target_place (target one)) (slice_get outputs k)
output_got value [] k = refl
output_got value (x ∷ outputs) zero = refl
output_got value (x ∷ outputs) (suc k) = output_got value outputs k

-- the places of gates, and of one of them
abbrev pub gate_places : List Driven → List ℕ
gate_places drives = drive_places (assignments_of (map gate_drive drives))

abbrev pub own_places : Driven → List ℕ
own_places one = drive_places (output_drives (formula one.value) (map target one.outputs.items))

-- an element of two lists by its number
pub got_left : {X : Type 0} (xs ys : List X) (k : ℕ) → k < length xs → slice_get (xs ++ ys) k ≡ slice_get xs k
got_left [] ys k h = absurd (omega arith)
got_left (x ∷ xs) ys zero h = refl
got_left (x ∷ xs) ys (suc k) h = got_left xs ys k (omega arith)

pub got_right : {X : Type 0} (xs ys : List X) (k : ℕ) → length xs ≤ k → slice_get (xs ++ ys) k ≡ slice_get ys (k - length xs)
got_right [] ys k h =
    let same : k ≡ k - 0 = omega arith in
    ap (slice_get ys) same
got_right (x ∷ xs) ys zero h = absurd (omega arith)
got_right (x ∷ xs) ys (suc k) h =
    let same : k - length xs ≡ suc k - length (x ∷ xs) = omega arith in
    got_right xs ys k (omega arith) ∙ ap (slice_get ys) same

-- the places of gates, from one gate on
pub places_more : (drives : List Driven) (i : ℕ) (one : Driven)
    → i < length drives
    → one ≡ get_or drives i one
    → gate_places (drop i drives) ≡ own_places one ++ gate_places (drop (i + 1) drives)
places_more drives i one inside is =
    at_drop_more gate_places drives i one inside
    ∙ ap (λ x. gate_places (x ∷ drop (i + 1) drives)) (sym is)
    ∙ map-append (λ (drive : Drive). target_place drive.target) (output_drives (formula one.value) (map target one.outputs.items)) (assignments_of (map gate_drive (drop (i + 1) drives)))

pub count_more : (drives : List Driven) (i : ℕ) (one : Driven)
    → i < length drives
    → one ≡ get_or drives i one
    → length (gate_places (drop i drives)) ≡ length one.outputs.items + length (gate_places (drop (i + 1) drives))
count_more drives i one inside is =
    let all : length (gate_places (drop i drives)) ≡ length (own_places one ++ gate_places (drop (i + 1) drives)) =
    ap length (places_more drives i one inside is) in
    omega (arith, length-append (own_places one) (gate_places (drop (i + 1) drives)), output_count (formula one.value) one.outputs.items)

-- the place of an output by its number among those from one gate on
pub place_here : (drives : List Driven) (i : ℕ) (one : Driven) (k : ℕ) (output : Lvalue)
    → i < length drives
    → one ≡ get_or drives i one
    → slice_get one.outputs.items k ≡ Some output
    → slice_get (gate_places (drop i drives)) k ≡ Some (target_place (target output))
place_here drives i one k output inside is found =
    let few : k < length one.outputs.items = slice_get_within one.outputs.items k output found in
    let there : k < length (own_places one) = omega (arith, output_count (formula one.value) one.outputs.items) in
    ap (λ xs. slice_get xs k) (places_more drives i one inside is)
    ∙ got_left (own_places one) (gate_places (drop (i + 1) drives)) k there
    ∙ output_got (formula one.value) one.outputs.items k
    ∙ ap (option_map (λ (one : Lvalue). target_place (target one))) found

pub place_further : (drives : List Driven) (i : ℕ) (one : Driven) (k : ℕ)
    → i < length drives
    → one ≡ get_or drives i one
    → length one.outputs.items ≤ k
    → slice_get (gate_places (drop i drives)) k ≡ slice_get (gate_places (drop (i + 1) drives)) (k - length one.outputs.items)
place_further drives i one k inside is past =
    let same : length (own_places one) ≡ length one.outputs.items = output_count (formula one.value) one.outputs.items in
    let behind : length (own_places one) ≤ k = omega arith in
    ap (λ xs. slice_get xs k) (places_more drives i one inside is)
    ∙ got_right (own_places one) (gate_places (drop (i + 1) drives)) k behind
    ∙ ap (λ n. slice_get (gate_places (drop (i + 1) drives)) (k - n)) same
