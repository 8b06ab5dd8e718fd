use Rattle.std.proofs.Common.{◌≡◌, ◌∙◌, ◌++◌, ℕ, List, ap, sym, if◌then◌else◌}
use Rattle.std.specs.Str.{bytes_eq}
use Rattle.name_map.specs.Values.{values_of}
use Rattle.vcd_read.specs.Frames.{variable_in}
use Rattle.vcd_signals.specs.Keys.{entered, key, prefix, variable_key}
use Rattle.vcd_signals.proofs.Paths.{path_prefix}
use Rattle.vcd_signals.proofs.keys.Walk.note.Goals as goal

pub returns-clause-known : goal.returns-clause-known
returns-clause-known c = λ scopes is wanted.
    let walk = c.args.self.now in
    let variable = c.args.variable.now in
    let same : c.in_ok-key.key ≡ variable_key (variable_in scopes variable) =
    c.in_ok-key.ensures
    ∙ ap (λ (front : List ℕ). key (front ++ c.as_bytes.result.now) variable.width) (c.deref.ensures.value ∙ is.prefix_is)
    ∙ ap (λ (path : List ℕ). key path variable.width) (ap (λ (name : List ℕ). prefix scopes ++ name) c.as_bytes.ensures ∙ sym (path_prefix scopes variable.name)) in
    c.note_code.ensures wanted
    ∙ ap (λ (k : List ℕ). if bytes_eq k wanted then entered (values_of walk.known wanted) variable.code else values_of walk.known wanted) same
