-- What a well formed request has, and which requests are accepted.
-- Worked examples: crates/desk_sound/proofs/Example.antt.
use Rattle.std.specs.Prelude.{◌≡◌, ◌≤◌, true, ℕ, ℤ, List, length, ⊤}
use Rattle.std.specs.Str.{is_utf8}
use Rattle.desk_tables.specs.Limits.{MAX_BYTES}
use Rattle.desk_tables.specs.Rules.{is_file_name}
use Rattle.desk_tables.specs.Tables.{Kept}
use Rattle.desk_tables.specs.declared.change.Change.{Change}
use Rattle.desk_requests.specs.Requests.{label_of}
use Rattle.desk_requests.specs.declared.ask.Ask.{Ask}
use Rattle.desk_requests.specs.declared.ask.Ask.TheVariants as ask
use Rattle.desk_requests.specs.declared.ask.Request.{Request}
use Rattle.desk_requests.specs.declared.ask.WaiverAsk.{WaiverAsk}
use Rattle.desk_records.specs.Machine.{request_outcome}
use Rattle.desk_records.specs.Outcomes.{Done, Open}
use Rattle.desk_rulings.specs.Rulings.{Verdict}
use Rattle.desk_rulings.specs.Grants.{waive_outcome}
use Rattle.desk_rulings.specs.SignOffs.{signoff_outcome}

-- the name of a file that is put is one that a file may have, and its text is no longer than a
-- file may be
pub record IsLawfulFile (name text : List ℕ) : Type 0 where
  pub named : is_file_name name ≡ true
  pub short : length text ≤ MAX_BYTES

-- the texts that a waiver keeps are UTF-8
pub record IsLawfulWaiver (it : WaiverAsk) : Type 0 where
  pub top : is_utf8 it.top ≡ true
  pub target : is_utf8 it.target ≡ true
  pub reason : is_utf8 it.reason ≡ true

-- what is asked for is well formed
abbrev pub IsLawfulAsk : Ask → Type 0
IsLawfulAsk (ask.PutFile name text) = IsLawfulFile name text
IsLawfulAsk (ask.SignOff top) = is_utf8 top ≡ true
IsLawfulAsk (ask.Waive it) = IsLawfulWaiver it
IsLawfulAsk _ = ⊤

-- the request is well formed: what it asks for is, and what the user calls it is UTF-8
pub record IsLawful (request : Request) : Type 0 where
  pub asks : IsLawfulAsk request.ask
  pub label : is_utf8 (label_of request.id) ≡ true

-- on a day the request is accepted with a change: by the tables alone, or with what the rules say
-- of its module, whatever they say
pub data IsAccepted (request : Request) (today : ℤ) (kept : Kept) (change : Change) : Type 0 where
  ByTables :
      request_outcome request today kept ≡ Done change →
      IsAccepted request today kept change
  Waived :
      (it : WaiverAsk) (verdict : Verdict) →
      request.ask ≡ ask.Waive it → request_outcome request today kept ≡ Open →
      waive_outcome it request today kept verdict ≡ Done change →
      IsAccepted request today kept change
  SignedOff :
      (top : List ℕ) (verdict : Verdict) →
      request.ask ≡ ask.SignOff top → request_outcome request today kept ≡ Open →
      signoff_outcome top request today kept verdict ≡ Done change →
      IsAccepted request today kept change
