use Rattle.std.proofs.Common.{◌≡◌, ◌∙◌, true, false, not, Bool, sym, refl}
use Rattle.std.specs.List.{slice_get}
use Rattle.std.specs.Prelude.{IsTrue}
use Rattle.std.proofs.lemmas.Bool.{eq-eqb, eqb-true, false≢true}
use Rattle.rtl_bits.specs.Bits.{has_unknown}
use Rattle.event_model.specs.Queue.{is_input}
use Rattle.rtl_flat.specs.Flats.{flat, widths}
use Rattle.netlist_eval.proofs.Fitting.{width_at}
use Rattle.netlist_eval.proofs.Marked.{input_below}
use Rattle.netlist_eval.proofs.sim.NetSim.fits.Goals as goal
use Rattle.netlist_eval.proofs.sim.NetSim.fits.Goals.{then-is_top, else-is_top}

not_true : (b : Bool) → not b ≡ true → b ≡ false
not_true true h = absurd (false≢true h)
not_true false h = refl

pub returns-then-is_known : goal.returns-then-is_known
returns-then-is_known c =
    let design = c.args.self.now.netlist.now.design.now in
    let i = c.args.setting.now.signal.0 in
    let bits = c.args.setting.now.value in
    let facts : IsTrue (is_input (flat design) i) × (has_unknown bits ≡ false) =
    elim c.if-is_top.branch [
      | then-is_top w ↦ (
        sym c.is_top.ensures ∙ w.if-is_top.true,
        not_true (has_unknown bits) (sym w.is_known.ensures ∙ (sym w.value-is ∙ c.if-is_known.true)),
      )
      | else-is_top w ↦ absurd (false≢true (sym w.if-is_top.false ∙ (sym w.value-is ∙ c.if-is_known.true)))
    ] in
    let width : widths (flat design) i ≡ c.index.result.now.width =
    width_at design.signals.items i c.index.result.now (input_below design.signals.items i facts.0) c.index.ensures in (
      λ h. record { input = facts.0; wide = sym c.width.ensures.exact ∙ (eqb-true c.width.result c.index.result.now.width h ∙ sym width); known = facts.1 },
      λ sets. eq-eqb c.width.result c.index.result.now.width (c.width.ensures.exact ∙ (sets.wide ∙ width)),
    )
