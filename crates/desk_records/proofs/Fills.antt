-- What fills no table.
use Rattle.std.proofs.Common.{◌≡◌, ℕ, false, List, refl}
use Rattle.desk_tables.specs.declared.rows.FileRow.{FileRow}
use Rattle.desk_requests.specs.declared.ask.Ask.{Ask}
use Rattle.desk_requests.specs.declared.ask.Ask.TheVariants as ask
use Rattle.desk_requests.specs.declared.ask.WaiverAsk.{WaiverAsk}
use Rattle.desk_records.specs.Machine.{fills_files, fills_signoffs, fills_waivers}

pub no_put : (it : Ask) (files : List FileRow) → ((name text : List ℕ) → it ≡ ask.PutFile name text → ⊥) → false ≡ fills_files it files
no_put (ask.PutFile name text) files other = absurd (other name text refl)
no_put _ files other = refl

pub no_waive : (it : Ask) (count : ℕ) → ((asked : WaiverAsk) → it ≡ ask.Waive asked → ⊥) → false ≡ fills_waivers it count
no_waive (ask.Waive asked) count other = absurd (other asked refl)
no_waive _ count other = refl

pub no_signoff : (it : Ask) (count : ℕ) → ((top : List ℕ) → it ≡ ask.SignOff top → ⊥) → false ≡ fills_signoffs it count
no_signoff (ask.SignOff top) count other = absurd (other top refl)
no_signoff _ count other = refl
