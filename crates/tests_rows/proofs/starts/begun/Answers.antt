use Rattle.std.proofs.Common.{◌∙◌, List, ap, length, map}
use Rattle.rtl_bits.specs.declared.Bit.{Bit}
use Rattle.rtl_flat.specs.declared.expr.SigId.{SigId}
use Rattle.rtl_flat.specs.Flats.{flat, widths}
use Rattle.tests_netlists.specs.net_start.Stored.{places}
use Rattle.tests_rows.proofs.starts.begun.Goals as goal

pub new-requires-clause-registers : goal.new-requires-clause-registers
new-requires-clause-registers c =
    let d = flat c.args.netlist.now.design.now in
    record {
      signals = places c.in_ok-holders.holders.items;
      are = c.in_ok-holders.ensures.all;
      wide = ap (λ (l : List (List Bit)). map length l) c.deref-3.ensures.value
          ∙ (c.in_ok-registers.ensures ∙ ap (λ (l : List SigId). map (widths d) (places l)) c.deref.ensures.value);
    }

pub new-requires-clause-inputs : goal.new-requires-clause-inputs
new-requires-clause-inputs c =
    let d = flat c.args.netlist.now.design.now in
    record {
      signals = places c.in_ok-tops.tops.items;
      are = c.in_ok-tops.ensures.all;
      wide = ap (λ (l : List (List Bit)). map length l) c.deref-4.ensures.value
          ∙ (c.in_ok-inputs.ensures ∙ ap (λ (l : List SigId). map (widths d) (places l)) c.deref-2.ensures.value);
    }
