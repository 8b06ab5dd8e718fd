use Rattle.std.proofs.Common.{[], Option, subst}
use Rattle.std.specs.List.{All}
use Rattle.std.specs.Option.{option_map}
use Rattle.std.proofs.lemmas.List.Elements.{All-head}
use Rattle.event_model.specs.Writes.{Write, write_at}
use Rattle.net_number.specs.declared.spans.Span.{Span}
use Rattle.net_number.specs.Spans.{span}
use Rattle.net_body.specs.Entries.{IsInside}
use Rattle.net_body.proofs.drives.store_entry.Goals as goal

pub store_bits-requires-clause-there : goal.store_bits-requires-clause-there
store_bits-requires-clause-there c =
    let signals = c.args.signals.now in
    let w : Write = record { signal = c.args.entry.signal.0; at = c.in-Some.span.at; bits = c.args.entry.bits } in
    (All-head (IsInside signals) w [] (subst (λ (o : Option Span). All (IsInside signals) (write_at c.args.entry.signal.0 (option_map span o) c.args.entry.bits)) c.in-Some.is c.requires.inside)).there

pub store_bits-requires-clause-inside : goal.store_bits-requires-clause-inside
store_bits-requires-clause-inside c =
    let signals = c.args.signals.now in
    let w : Write = record { signal = c.args.entry.signal.0; at = c.in-Some.span.at; bits = c.args.entry.bits } in
    (All-head (IsInside signals) w [] (subst (λ (o : Option Span). All (IsInside signals) (write_at c.args.entry.signal.0 (option_map span o) c.args.entry.bits)) c.in-Some.is c.requires.inside)).inside
