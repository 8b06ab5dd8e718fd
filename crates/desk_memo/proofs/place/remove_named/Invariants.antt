use Rattle.std.proofs.Common.{◌≡◌, ◌≤◌, ◌++◌, length, take, drop, vec_len, vec_capacity}
use Rattle.desk_memo.specs.Readings.{without}
use Rattle.desk_memo.proofs.place.remove_named.Given as goal

abbrev pub invariant-loop-place : goal.invariant-loop-place
invariant-loop-place g l = record {
  inside : l.place ≤ length l.files;
  items : l.kept.items ≡ take l.place l.fn.kept.items ++ without l.name (drop l.place l.files) (drop l.place l.fn.kept.items);
  longer : l.place ≤ vec_len l.kept;
  shorter : vec_len l.kept ≤ vec_len l.fn.kept;
  capacity : vec_capacity l.kept ≡ vec_capacity l.fn.kept;
}

abbrev pub decreases-loop-place : goal.decreases-loop-place
decreases-loop-place g l = l.place
