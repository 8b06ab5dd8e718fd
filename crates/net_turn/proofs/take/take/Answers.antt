use Rattle.std.proofs.Common.{◌≡◌, ◌∙◌, List, length, sym, subst}
use Rattle.std.proofs.Math.Path.{fun_ext}
use Rattle.rtl_bits.specs.declared.Bit.{Bit}
use Rattle.rtl_flat.specs.Value.{store}
use Rattle.rtl_flat.specs.Flats.{flat}
use Rattle.net_turn.specs.Runs.{ArePut, AreRuns, runs_of, numbers_with}
use Rattle.net_turn.proofs.take.take.Goals as goal

pub returns-clause-put : goal.returns-clause-put
returns-clause-put c =
    let m = c.args.maps.now in
    let d = flat m.design.now in
    let all = c.args.clocked.now in
    let turn = c.args.turn.now in
    let old = store m.numbers.items in
    let after = store c.take_all.new.after in
    let new = store c.write_back.new.maps.numbers.items in
    let copied : c.copy_from_slice.new.self ≡ m.numbers.items = c.copy_from_slice.ensures.after ∙ c.deref.ensures.value in
    let written : new ≡ after = fun_ext c.write_back.ensures.numbers in
    let taken : AreRuns d (runs_of old (numbers_with old turn) all) → ArePut d c.args.fill old (runs_of old (numbers_with old turn) all) (length (runs_of old (numbers_with old turn) all)) after
    = subst (λ (xs : List (List Bit)). AreRuns d (runs_of (store xs) (numbers_with (store xs) turn) all) → ArePut d c.args.fill (store xs) (runs_of (store xs) (numbers_with (store xs) turn) all) (length (runs_of (store xs) (numbers_with (store xs) turn) all)) after) copied c.take_all.ensures.put in
    subst (λ n. AreRuns d (runs_of old (numbers_with old turn) all) → ArePut d c.args.fill old (runs_of old (numbers_with old turn) all) (length (runs_of old (numbers_with old turn) all)) n) (sym written) taken
