use Rattle.std.proofs.Common.{[], Option, subst}
use Rattle.std.specs.List.{All}
use Rattle.std.specs.Option.{option_map}
use Rattle.std.proofs.lemmas.List.Elements.{All-head}
use Rattle.event_model.specs.Writes.{Write, write_at}
use Rattle.net_number.specs.declared.spans.Span.{Span}
use Rattle.net_number.specs.Spans.{span}
use Rattle.net_body.specs.Entries.{IsInside}
use Rattle.net_body.proofs.entries.write_entry.Goals as goal

pub write-requires-clause-there : goal.write-requires-clause-there
write-requires-clause-there c =
    let signals = c.args.signals.now in
    let w : Write = record { signal = c.args.entry.signal.0; at = c.in-Some.span.at; bits = c.args.entry.bits } in
    (All-head (IsInside signals) w [] (subst (λ (o : Option Span). All (IsInside signals) (write_at c.args.entry.signal.0 (option_map span o) c.args.entry.bits)) c.in-Some.is c.requires.inside)).there

pub write-requires-clause-inside : goal.write-requires-clause-inside
write-requires-clause-inside c =
    let signals = c.args.signals.now in
    let w : Write = record { signal = c.args.entry.signal.0; at = c.in-Some.span.at; bits = c.args.entry.bits } in
    (All-head (IsInside signals) w [] (subst (λ (o : Option Span). All (IsInside signals) (write_at c.args.entry.signal.0 (option_map span o) c.args.entry.bits)) c.in-Some.is c.requires.inside)).inside
