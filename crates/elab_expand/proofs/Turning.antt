-- The turns of a loop, one after the other.
use Rattle.std.specs.Prelude.{ℕ, zero, suc, ℤ, true, false, cond}
use Rattle.std.proofs.Common.{◌≡◌, ◌∙◌, ap, sym}
use Rattle.elab_scope.specs.Faults.{TooManyTurns}
use Rattle.elab_scope.specs.Rules.{fault}
use Rattle.std.specs.Prelude.{[], ◌∷◌}
use Rattle.elab_expand.specs.Expansions.{Loop, Opening, Turn, followed, is_taken, one_turn, turn_judged, turn_number, turn_outcome, turns, with_tally}
use Rattle.elab_expand.specs.Tallies.{telling}

-- where the condition doesn't hold no turn is left
pub turns_stop : (body : Opening → Opening) (loop : Loop) (k : ℕ) (z : ℤ) (o : Opening) → is_taken (turn_outcome loop loop.condition z o) ≡ false → turns body loop k z o ≡ turn_judged loop loop.condition z o
unfolding turns
turns_stop body loop zero z o h =
    ap (λ b. cond b (with_tally (turn_judged loop loop.condition z o) (telling (fault loop.at TooManyTurns ∷ []) (turn_judged loop loop.condition z o).tally)) (turn_judged loop loop.condition z o)) h
turns_stop body loop (suc more) z o h =
    ap (λ b. cond b (followed (turns body loop more) (one_turn body loop z (turn_number z) (turn_judged loop loop.condition z o)).next (one_turn body loop z (turn_number z) (turn_judged loop loop.condition z o)).opening) (turn_judged loop loop.condition z o)) h

-- where it holds, and no turn may follow
pub turns_last : (body : Opening → Opening) (loop : Loop) (k : ℕ) (z : ℤ) (o : Opening) → k ≡ zero → is_taken (turn_outcome loop loop.condition z o) ≡ true → turns body loop k z o ≡ with_tally (turn_judged loop loop.condition z o) (telling (fault loop.at TooManyTurns ∷ []) (turn_judged loop loop.condition z o).tally)
unfolding turns
turns_last body loop k z o none h =
    ap (λ k. turns body loop k z o) none
    ∙ ap (λ b. cond b (with_tally (turn_judged loop loop.condition z o) (telling (fault loop.at TooManyTurns ∷ []) (turn_judged loop loop.condition z o).tally)) (turn_judged loop loop.condition z o)) h

-- where it holds, a turn, and what follows it
pub turns_go : (body : Opening → Opening) (loop : Loop) (k more : ℕ) (z : ℤ) (o : Opening) (t : Turn) → k ≡ suc more → is_taken (turn_outcome loop loop.condition z o) ≡ true → t ≡ one_turn body loop z (turn_number z) (turn_judged loop loop.condition z o) → turns body loop k z o ≡ followed (turns body loop more) t.next t.opening
unfolding turns
turns_go body loop k more z o t one h is =
    ap (λ k. turns body loop k z o) one
    ∙ ap (λ b. cond b (followed (turns body loop more) (one_turn body loop z (turn_number z) (turn_judged loop loop.condition z o)).next (one_turn body loop z (turn_number z) (turn_judged loop loop.condition z o)).opening) (turn_judged loop loop.condition z o)) h
    ∙ ap (λ (t : Turn). followed (turns body loop more) t.next t.opening) (sym is)
