use Rattle.std.proofs.Common.{◌≡◌, take, drop}
use Rattle.desk_memo.specs.Exchanges.{put_in}
use Rattle.desk_memo.proofs.exchange.exchange.Given as goal

abbrev pub invariant-loop-place : goal.invariant-loop-place
invariant-loop-place g l = record {
  done : l.kept ≡ put_in (take l.place l.fn.aside) l.fn.kept;
  undone : put_in (take l.place l.aside) l.kept ≡ l.fn.kept;
  rest : drop l.place l.aside ≡ drop l.place l.fn.aside;
}
