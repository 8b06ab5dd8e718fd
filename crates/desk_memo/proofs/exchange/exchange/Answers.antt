use Rattle.std.proofs.Common.{◌∙◌, ◌<◌, ◌+◌, length, sym, arith}
use Rattle.std.proofs.lemmas.Grind.{drop_more_same}
use Rattle.std.proofs.lemmas.List.{drop-set-lt}
use Rattle.desk_memo.proofs.Exchanged.{all_places, done_step, undone_step}
use Rattle.desk_memo.proofs.exchange.exchange.Goals as goal

pub loop-place-preserved : goal.loop-place-preserved
loop-place-preserved g c = record {
  done =
      done_step c.loop-place.place c.loop-place.aside c.args.aside.now c.loop-place.kept c.args.kept.now c.index-aside-place.result c.index-kept-place.result c.exchange_one.new.kept (omega arith) (omega arith)
      c.loop-place.invariant.done c.loop-place.invariant.rest c.exchange_one.ensures.kept;
  undone =
      undone_step c.loop-place.place c.loop-place.aside c.loop-place.kept c.args.kept.now c.index-aside-place.result c.exchange_one.new.aside c.index-kept-place.result c.exchange_one.new.kept (omega arith) (omega arith)
      c.loop-place.invariant.undone c.exchange_one.ensures.kept c.exchange_one.ensures.aside;
  rest =
      drop-set-lt (c.loop-place.place + 1) c.loop-place.aside c.loop-place.place c.exchange_one.new.aside (omega arith)
      ∙ drop_more_same c.loop-place.aside c.args.aside.now c.loop-place.place c.loop-place.invariant.rest;
}

pub returns-clause-done : goal.returns-clause-done
returns-clause-done g c =
    c.loop-place.invariant.done
    ∙ all_places c.loop-place.place c.args.aside.now c.args.kept.now
    (λ (a : c.loop-place.place < length c.args.aside.now) (b : c.loop-place.place < length c.args.kept.now). omega arith)

pub returns-clause-undone : goal.returns-clause-undone
returns-clause-undone g c =
    sym (all_places c.loop-place.place c.loop-place.aside c.loop-place.kept
    (λ (a : c.loop-place.place < length c.loop-place.aside) (b : c.loop-place.place < length c.loop-place.kept). omega arith))
    ∙ c.loop-place.invariant.undone
