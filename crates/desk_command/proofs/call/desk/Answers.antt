use Rattle.std.proofs.Common.{◌≡◌, Some, false, subst, sym}
use Rattle.desk_top.specs.Words.{is_sign, order as source_order, texts}
use Rattle.desk_command.specs.declared.words.Command.{Command}
use Rattle.desk_command.specs.Words.{Report, Serve, order, order_of}
use Rattle.desk_command.proofs.Sourced.{no_sign}
use Rattle.desk_command.proofs.call.desk.Goals as goal

pub returns-in-Some-Report-clause-headline : goal.returns-in-Some-Report-clause-headline
returns-in-Some-Report-clause-headline g c =
    let words = texts c.args.words.now in
    let none : is_sign (source_order words) ≡ false =
    no_sign words (Report c.in-Some-Report.top.now)
    (sym (subst (λ (command : Command). Some (order_of command) ≡ order words) c.in-Some-Report.field-0-is c.in-Some-Report.ensures)) in
    λ sign done. absurd (cc (none, sign))

pub returns-in-Some-Serve-clause-headline : goal.returns-in-Some-Serve-clause-headline
returns-in-Some-Serve-clause-headline g c =
    let words = texts c.args.words.now in
    let none : is_sign (source_order words) ≡ false =
    no_sign words (Serve c.in-Some-Serve.port c.in-Some-Serve.count)
    (sym (subst (λ (command : Command). Some (order_of command) ≡ order words) c.in-Some-Serve.field-0-is c.in-Some-Serve.ensures)) in
    λ sign done. absurd (cc (none, sign))
