-- It serves inner contracts and proofs; no answer of the program is stated by it.
-- The least signal that parts of a statement may write.
use Rattle.std.specs.Prelude.{nat_lt, cond, List, Option, Some, None}
use Rattle.rtl_flat.specs.declared.expr.SigId.{SigId}
use Rattle.rtl_flat.specs.Flows.{actions_then, may_target, other_flow}
use Rattle.rtl_flat.specs.Paths.{End, may_write, may_write_bit}
use Rattle.rtl_flat.specs.Process.{Piece, Actions, Otherwise, Branches}
use Rattle.rtl_rule.specs.Parts.{first_of}
use Rattle.rtl_flat.specs.Flats.{Flat, widths}
use Rattle.check_parts.specs.rtl_scan.Scan.{some_item}

-- the lesser of two signals, where there are any
abbrev pub lesser : Option SigId → Option SigId → Option SigId
lesser None other = other
lesser (Some a) None = Some a
lesser (Some a) (Some b) = cond (nat_lt b.0 a.0) (Some b) (Some a)

abbrev pub first_of_pieces : Flat → List Piece → Option SigId
first_of_pieces d target = first_of d (may_target (widths d) target)

abbrev pub first_of_all : Flat → Actions → Option SigId
first_of_all d body = first_of d (may_write (actions_then (widths d) body End))

abbrev pub first_of_other : Flat → Otherwise → Option SigId
first_of_other d other = first_of d (may_write (other_flow (widths d) other))

abbrev pub first_of_items : Flat → Branches → Option SigId
first_of_items d items = first_of d (λ s k. some_item (may_write_bit s k) (widths d) items)
