use Rattle.std.proofs.Common.{◌≡◌, ◌∙◌, ◌-◌, ◌++◌, suc, take, drop, ap, sym, arith}
use Rattle.desk_files.specs.Sources.{is_named}
use Rattle.desk_memo.specs.Readings.{without}
use Rattle.desk_memo.proofs.Placed.{other_less}
use Rattle.desk_memo.proofs.place.remove_named.Goals as goal

pub loop-place-preserved : goal.loop-place-preserved
loop-place-preserved g c =
    let before : c.loop-place.place ≡ suc (c.loop-place.place - 1) = omega arith in
    record {
      inside = omega arith;
      items =
          c.loop-place.invariant.items
          ∙ ap (λ it. take it c.args.kept.now.items ++ without c.args.name.now (drop it c.args.files.now) (drop it c.args.kept.now.items)) before
          ∙ other_less c.args.name.now (c.loop-place.place - 1) c.args.files.now c.args.kept.now.items c.index-files-place.result (omega arith) (omega (arith, c.requires, c.args.kept.now.ok.0))
          (ap (λ it. is_named c.args.name.now it) (sym c.index-files-place.is) ∙ sym c.is_named.ensures ∙ c.if-is_named.false);
      longer = omega arith;
      shorter = omega arith;
      capacity = c.loop-place.invariant.capacity;
    }
