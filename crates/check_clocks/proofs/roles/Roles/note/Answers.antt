use Rattle.std.proofs.Common.{◌∙◌, ap, sym, subst, refl}
use Rattle.std.specs.Option.{option_map}
use Rattle.check_gates.specs.check_chains.Views.{chain_view}
use Rattle.check_clocks.specs.Roles.{NotesChain}
use Rattle.check_clocks.proofs.Roled.{chain_noted}
use Rattle.check_clocks.proofs.roles.Roles.note.Goals as goal

pub returns-in-Some : goal.returns-in-Some
returns-in-Some c =
    let is = ap (option_map chain_view) (sym c.in-Some.is) ∙ c.in_ok-chain.ensures in
    subst (λ o. NotesChain c.args.tops.now o c.args.self.now c.note_resets.new.self) is
    (chain_noted c.args.tops.now c.in-Some.chain c.args.self.now c.note_clock.new.self c.note_resets.new.self c.deref.result.now c.deref.ensures.value c.note_clock.ensures.clocks c.note_clock.ensures.resets c.note_resets.ensures.clocks c.note_resets.ensures.resets)

pub returns-in-None : goal.returns-in-None
returns-in-None c =
    let is = ap (option_map chain_view) (sym c.in-None.is) ∙ c.in_ok-chain.ensures in
    subst (λ o. NotesChain c.args.tops.now o c.args.self.now c.args.self.now) is (refl, refl)
