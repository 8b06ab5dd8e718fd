-- Notes of places that other tools read otherwise.
-- Worked examples: crates/tests_rows/stdin.
use Rattle.std.specs.Prelude.{ℕ, Option}
use Rattle.rtl_flat.specs.declared.expr.SigId.{SigId}
use Rattle.rtl_flat.specs.declared.note.Note.{Note}
use Rattle.rtl_flat.specs.declared.note.Reading.{Reading}
use Rattle.elab_uses.specs.elab_standard.declared.uses.Home.{Home}

-- one at a place of the text where an instance is at home
abbrev pub note_at : Reading → Option SigId → Home → ℕ → Note
note_at reading signal home at =
    record {
      reading = reading;
      signal = signal;
      instance = home.instance;
      spot = record { file = home.file; at = at };
    }
