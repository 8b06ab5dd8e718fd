use Rattle.std.proofs.Common.{[], None, refl, sym, subst}
use Rattle.std.specs.List.{All}
use Rattle.std.proofs.lemmas.List.Elements.{All-nil}
use Rattle.rtl_flat.specs.Value.{store}
use Rattle.rtl_flat.specs.Flats.{flat}
use Rattle.net_model.specs.Numbers.{AreNumbers}
use Rattle.net_settle.specs.Settle.{SetsInput}
use Rattle.net_settle.specs.net_solve.Laws.{AreApart, IsOrder}
use Rattle.net_settle.specs.Work.{Solves, numbers_of}
use Rattle.net_settle.proofs.Lawful.{lawful_flat}
use Rattle.net_turn.proofs.Turned.{are_runs, begins, begun_is, input_given}
use Rattle.net_turn.proofs.turn.begin.Goals as goal

pub work-requires-clause-able : goal.work-requires-clause-able
work-requires-clause-able c = c.take.ensures.able

pub work-requires-clause-order : goal.work-requires-clause-order
work-requires-clause-order c =
    subst (λ r. IsOrder (flat r.now) (numbers_of c.args.order.now)) (sym c.take.ensures.design) c.requires.order

pub work-requires-clause-apart : goal.work-requires-clause-apart
work-requires-clause-apart c =
    subst (λ r. AreApart (flat r.now)) (sym c.take.ensures.design) c.requires.apart

pub returns-clause-begins : goal.returns-clause-begins
returns-clause-begins c =
    let m = c.args.maps.now in
    let d = flat m.design.now in
    let f = c.args.fill in
    let all = c.args.clocked.now in
    let old = store m.numbers.items in
    let kept = store c.take.new.maps.numbers.items in
    let new = store c.work.new.maps.numbers.items in
    let lawful = lawful_flat m.design.now in
    let are = c.requires.able.numbers in
    let sets : All (SetsInput d) [] = All-nil (SetsInput d) in
    let numbers : AreNumbers d kept = subst (λ r. AreNumbers (flat r.now) kept) c.take.ensures.design c.take.ensures.able.numbers in
    let solves : Solves d f kept new
    = subst (λ r. Solves (flat r.now) f kept new) c.take.ensures.design c.work.ensures.solves in
    record {
      begun = λ chains sources filled.
          let put_all = c.take.ensures.put (are_runs d f old chains all sources None) in
          let solution = solves old kept (begins d f old chains all sources None lawful c.requires.apart are sets kept numbers put_all filled) in
          record {
            given = kept;
            solution = solution;
            inputs = input_given d f old chains all sources None lawful c.requires.apart are sets kept numbers put_all;
            registers = begun_is d f old chains all sources None lawful c.requires.apart are sets kept numbers put_all new solution refl;
          };
    }
