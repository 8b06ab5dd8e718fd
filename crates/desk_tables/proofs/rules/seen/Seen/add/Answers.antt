use Rattle.std.proofs.Common.{◌≡◌, ◌∙◌, ◌||◌, Bool, true, false, refl, ap}
use Rattle.std.specs.Prelude.{Option, Some, is_some, bytes_eq, if◌then◌else◌}
use Rattle.std.proofs.Math.Path.{fun_ext}
use Rattle.name_map.specs.Values.{values_of}
use Rattle.desk_tables.proofs.rules.seen.Seen.add.Goals as goal

met : {V : Type 0} (same : Bool) (value : V) (old : Option V) → is_some (if same then Some value else old) ≡ (same || is_some old)
met true value old = refl
met false value old = refl

pub returns : goal.returns
returns c =
    ap (λ values text. is_some (values text)) c.in_ok-put.ensures.ok
    ∙ fun_ext (λ other. met (bytes_eq c.args.text.now other) tt (values_of c.args.self.now.texts other))
