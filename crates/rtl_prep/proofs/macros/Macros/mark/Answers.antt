use Rattle.std.proofs.Common.{rules, Some, ◌∙◌, ap}
use Rattle.std.specs.Option.{option_map}
use Rattle.rtl_prep.specs.Macros.{with_macro, set_busy}
use Rattle.rtl_prep.specs.Tables.{table, seen_macro}
use Rattle.rtl_prep.proofs.Tables.{written}
use Rattle.rtl_prep.proofs.macros.Macros.mark.Goals as goal

pub returns-in-Some : goal.returns-in-Some
returns-in-Some c =
    written c.args.self.now.all (c.get_mut.follows.lender (record { body = c.in-Some.found.now.body; busy = c.args.busy })) c.args.name.now (Some (record { body = c.in-Some.found.now.body; busy = c.args.busy }))
    ((c.get_mut.follows.holds (record { body = c.in-Some.found.now.body; busy = c.args.busy })).3 (search rules))
    ∙ ap (λ o. with_macro (table c.args.self.now) c.args.name.now (option_map (set_busy c.args.busy) (option_map seen_macro o))) c.in-Some.ensures.value
