use Rattle.std.proofs.Common.{◌≡◌, ◌∙◌, ◌*◌, ◌≤◌, ℕ, List, length, ap, subst, sym, arith}
use Rattle.std.specs.List.{All}
use Rattle.rtl_bits.specs.declared.Bit.{Bit}
use Rattle.rtl_flat.specs.declared.act.Process.{Process}
use Rattle.rtl_flat.specs.Process.{doing}
use Rattle.rtl_flat.specs.WellFormed.{process_statements}
use Rattle.net_body.specs.Levels.{process_levels}
use Rattle.net_body.specs.Marks.{HaveMarks}
use Rattle.net_body.proofs.Ending.{clear_maps}
use Rattle.net_body.proofs.Making.{few_statements, rooms_for}
use Rattle.net_body.proofs.maps.Maps.new.Goals as goal

pub most_depth-depth-requires : goal.most_depth-depth-requires
most_depth-depth-requires c =
    subst (λ (ps : List Process). All (λ process. process_statements (doing process.does) ≤ 100000) ps) (sym c.deref-2.ensures.value)
    (few_statements c.args.design.now.processes.items 100000 c.args.design.now.is_design.statement_limit)

pub returns-clause-ready : goal.returns-clause-ready
returns-clause-ready c =
    let marks = c.in_ok-marks.marks.items in
    let numbers = c.args.numbers.items in
    let count = c.in_ok-marks.ensures.count ∙ ap length c.deref.ensures.value in
    let widths = subst (λ (ns : List (List Bit)). HaveMarks ns marks) c.deref.ensures.value c.in_ok-marks.ensures.widths in
    let entries = c.in_ok-entries.ensures.len in
    let entries_ok = c.in_ok-entries.entries.ok.0 in
    record {
      kept = record {
        stored = c.requires.stored;
        marked = c.requires.stored ∙ sym count;
        each = c.requires.each;
        next = λ i. c.requires.each i ∙ widths i;
      };
      clear = clear_maps numbers marks c.in_ok-marks.ensures.next c.in_ok-marks.ensures.wrote c.in_ok-marks.ensures.late;
      entries = omega (arith, entries, entries_ok);
    }

pub returns-clause-room : goal.returns-clause-room
returns-clause-room c =
    let design = c.args.design.now in
    let depth = c.most_depth-depth.result in
    let n = length design.signals.items in
    let long = c.in_ok-room.ensures.len in
    let room_ok = c.in_ok-room.room.ok.0 in
    let len_is = c.len.ensures in
    let signals_ok = design.signals.ok.0 in
    let count : c.len.result ≡ n = omega (arith, len_is, signals_ok) in
    let product = ap (λ (m : ℕ). depth * m) count in
    rooms_for design.processes.items depth n (length c.in_ok-room.room.items) (omega (arith, long, room_ok, product))
    (subst (λ (ps : List Process). All (λ process. process_levels (doing process.does) ≤ depth) ps) c.deref-2.ensures.value c.most_depth-depth.ensures.each)
