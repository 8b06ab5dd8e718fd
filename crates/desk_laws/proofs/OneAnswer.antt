-- Words have one outcome over given files, and the desk answers it.
use Rattle.std.proofs.Common.{◌≡◌, ◌∙◌, ℕ, List, [], ◌∷◌, codes, map, take, Option, Some, None, Result, Ok, Err, sym, ap, subst}
use Rattle.std.specs.Io.KnownBytes.{Appends}
use Rattle.desk_io.specs.declared.shelf.ShelfFault.{ShelfFault}
use Rattle.desk_io.specs.Shelf.{Files, reading}
use Rattle.rtl_flat.specs.Flats.{DesignParts}
use Rattle.desk_top.proofs.check_all_proofs.Alone.{alone}
use Rattle.source_file.specs.declared.SourceFile.{SourceFile}
use Rattle.desk_stages.specs.Stages.{stages_text}
use Rattle.desk_steps.specs.Steps.{Steps, file_of}
use Rattle.desk_top.specs.Answers.{IsAnswered, OverWorld}
use Rattle.rtl_rule.specs.declared.finding.Finding.{Finding}
use Rattle.demo_laws.specs.demo_replay.Firsts.{AreFirsts, told}
use Rattle.demo_laws.specs.Laws.{AreProcesses}
use Rattle.desk_top.specs.desk_build.Building.{Built, Designed, IsBuilt, Refused}
use Rattle.desk_top.specs.Delivery.{Outcome}
use Rattle.desk_top.specs.Outcome.{IsAnswer, IsDone, IsGenerated, IsJudged, IsOutcome, IsReplayIn, IsReplaying, IsRuled, IsRun, IsShownIn, IsSigned, IsSimulating, IsStaged, IsStepped, IsTried, World, generated_sources, generation_outcome, names_in, ruling_outcome, run}
use Rattle.desk_top.specs.Texts.{named, texts_of}
use Rattle.desk_top.specs.Words.{Order, Sign, Simulate, Replay, Vcd, Generate, order}
use Rattle.desk_laws.specs.Same.{AreSame, IsUndisturbed}
use Rattle.desk_laws.proofs.OneBuilt.{OneLine, one_built}
use Rattle.desk_laws.proofs.OneDemo.{demo_once, firsts_once, processes_of}
use Rattle.desk_laws.proofs.OneDump.{comparing_once}
use Rattle.desk_laws.proofs.OneRun.{one_run}

-- ---- a ruling

one_ruling : (top : List ℕ) (sources : List SourceFile) (design : DesignParts) → AreProcesses design.parts.flat → (one other : Outcome) → IsRuled top sources design one → IsRuled top sources design other → one ≡ other
one_ruling top sources design lawful one other first second =
    let d = design.parts.flat in
    let found : first.found ≡ second.found = alone design.parts first.found second.found first.are_all second.are_all in
    let shown : first.shown ≡ second.shown = firsts_once d lawful (take 64 second.found) first.shown second.shown
    (subst (λ (fs : List Finding). AreFirsts d (take 64 fs) (map told first.shown)) found first.are_shown) second.are_shown in
    first.is
    ∙ ap (λ (fs : List Finding). ruling_outcome top sources design fs first.shown) found
    ∙ ap (ruling_outcome top sources design second.found) shown
    ∙ sym second.is

answer_once : (top : List ℕ) (sources : List SourceFile) (texts : List (List ℕ)) (built : Built) (one other : Outcome) → IsBuilt top sources texts built → IsAnswer top sources built one → IsAnswer top sources built other → one ≡ other
answer_once top sources texts (Designed design) one other made first second = one_ruling top sources design (processes_of top sources texts design made) one other first second
answer_once top sources texts (Refused line) one other made first second = first ∙ sym second

judged_once : OneLine → (top : List ℕ) (sources : List SourceFile) (texts : List (List ℕ)) (one other : Outcome) → IsJudged top sources texts one → IsJudged top sources texts other → one ≡ other
judged_once line top sources texts one other first second =
    let same : first.built ≡ second.built = one_built line top sources texts first.built second.built first.is_built second.is_built in
    answer_once top sources texts second.built one other second.is_built (subst (λ (built : Built). IsAnswer top sources built one) same first.is) second.is

signed_once : OneLine → (top : List ℕ) (files : List (List ℕ)) (texts : Option (List (List ℕ))) (one other : Outcome) → IsSigned top files texts one → IsSigned top files texts other → one ≡ other
signed_once line top files None one other first second = first ∙ sym second
signed_once line top files (Some texts) one other first second = judged_once line top (named files texts) texts one other first second

-- ---- a simulation

run_once : (design : DesignParts) (read : Result Steps ℕ) (one other : Outcome) → IsRun design read one → IsRun design read other → one ≡ other
run_once design (Ok steps) one other first second =
    first.2 ∙ ap run (one_run design.parts.flat.signals design.parts.flat.tasks design.instances steps first.0 second.0 first.1 second.1) ∙ sym second.2
run_once design (Err number) one other first second = first ∙ sym second

tried_once : (steps : List ℕ) (built : Built) (one other : Outcome) → IsTried steps built one → IsTried steps built other → one ≡ other
tried_once steps (Designed design) one other first second = run_once design (file_of (names_in design) steps) one other first second
tried_once steps (Refused line) one other first second = first ∙ sym second

stepped_once : OneLine → (top : List ℕ) (sources : List SourceFile) (texts : List (List ℕ)) (steps : List ℕ) (one other : Outcome) → IsStepped top sources texts steps one → IsStepped top sources texts steps other → one ≡ other
stepped_once line top sources texts steps one other first second =
    let same : first.built ≡ second.built = one_built line top sources texts first.built second.built first.is_built second.is_built in
    tried_once steps second.built one other (subst (λ (built : Built). IsTried steps built one) same first.is) second.is

simulating_once : OneLine → (top : List ℕ) (files : List (List ℕ)) (steps : Result (List ℕ) ShelfFault) (texts : Option (List (List ℕ))) (one other : Outcome)
    → IsSimulating top files steps texts one → IsSimulating top files steps texts other → one ≡ other
simulating_once line top files (Err fault) texts one other first second = first ∙ sym second
simulating_once line top files (Ok steps) None one other first second = first ∙ sym second
simulating_once line top files (Ok steps) (Some texts) one other first second = stepped_once line top (named files texts) texts steps one other first second

-- ---- a demonstration

shown_once : (top : List ℕ) (sources : List SourceFile) (texts : List (List ℕ)) (demo : List ℕ) (built : Built) (one other : Outcome) → IsBuilt top sources texts built → IsShownIn demo built one → IsShownIn demo built other → one ≡ other
shown_once top sources texts demo (Designed design) one other made first second = demo_once design (processes_of top sources texts design made) demo one other first second
shown_once top sources texts demo (Refused line) one other made first second = first ∙ sym second

replay_once : OneLine → (top : List ℕ) (sources : List SourceFile) (texts : List (List ℕ)) (demo : List ℕ) (one other : Outcome) → IsReplayIn top sources texts demo one → IsReplayIn top sources texts demo other → one ≡ other
replay_once line top sources texts demo one other first second =
    let same : first.built ≡ second.built = one_built line top sources texts first.built second.built first.is_built second.is_built in
    shown_once top sources texts demo second.built one other second.is_built (subst (λ (built : Built). IsShownIn demo built one) same first.is) second.is

replaying_once : OneLine → (top : List ℕ) (files : List (List ℕ)) (demo : Result (List ℕ) ShelfFault) (texts : Option (List (List ℕ))) (one other : Outcome)
    → IsReplaying top files demo texts one → IsReplaying top files demo texts other → one ≡ other
replaying_once line top files (Err fault) texts one other first second = first ∙ sym second
replaying_once line top files (Ok demo) None one other first second = first ∙ sym second
replaying_once line top files (Ok demo) (Some texts) one other first second = replay_once line top (named files texts) texts demo one other first second

-- ---- a generated design

staged_once : (stages : ℕ) (built : Built) (one other : Outcome) → IsStaged stages built one → IsStaged stages built other → one ≡ other
staged_once stages (Designed design) one other first second =
    first.is ∙ ap (generation_outcome stages design) (alone design.parts first.found second.found first.are_all second.are_all) ∙ sym second.is
staged_once stages (Refused line) one other first second = first ∙ sym second

generated_once : OneLine → (stages : ℕ) (one other : Outcome) → IsGenerated stages one → IsGenerated stages other → one ≡ other
generated_once line stages one other first second =
    let same : first.built ≡ second.built = one_built line (codes "top") (generated_sources stages) (stages_text stages ∷ []) first.built second.built first.is_built second.is_built in
    staged_once stages second.built one other (subst (λ (built : Built). IsStaged stages built one) same first.is) second.is

-- ---- words

done_once : OneLine → (world : World) (command : Option Order) (one other : Outcome) → IsDone world command one → IsDone world command other → one ≡ other
done_once line world None one other first second = first ∙ sym second
done_once line world (Some (Sign top files)) one other first second = signed_once line top files (texts_of world.files files) one other first second
done_once line world (Some (Simulate top steps files)) one other first second =
    simulating_once line top files (reading (world.before steps)) (texts_of world.files files) one other first second
done_once line world (Some (Replay top demo files)) one other first second =
    replaying_once line top files (reading (world.before demo)) (texts_of world.files files) one other first second
done_once line world (Some (Vcd top scope dump files)) one other first second =
    comparing_once line top scope files (reading (world.before dump)) (texts_of world.files files) one other first second
done_once line world (Some (Generate stages)) one other first second = generated_once line stages one other first second

pub one_outcome : OneLine → (words : List (List ℕ)) (world : World) (one other : Outcome) → IsOutcome words world one → IsOutcome words world other → one ≡ other
one_outcome line words world one other first second = done_once line world (order words) one other first second

-- ---- answers

-- a world whose files are told is those files
one_world : (files : Files) (world : World) → files ≡ world.files → files ≡ world.before → world ≡ record { before = files; files = files }
one_world files world later before =
    ap (λ (held : Files). record world { files = held }) (sym later) ∙ ap (λ (held : Files). record { before = held; files = files }) (sym before)

pub one_answer : OneLine → (files : Files) (words : List (List ℕ)) (one other : ℕ) (before now old new : Option (List ℕ)) → IsUndisturbed one → IsUndisturbed other
    → OverWorld (Some files) (IsAnswered words one before now) → OverWorld (Some files) (IsAnswered words other old new) → AreSame one other before now old new
one_answer line files words one other before now old new fair sure first second =
    let got = first.holds.answered fair.kept_up in
    let too = second.holds.answered sure.kept_up in
    let world : first.world ≡ second.world = one_world files first.world first.agrees first.agrees_before ∙ sym (one_world files second.world second.agrees second.agrees_before) in
    let same : got.0 ≡ too.0 = one_outcome line words second.world got.0 too.0 (subst (λ (w : World). IsOutcome words w got.0) world got.1) too.1 in
    record {
      status = got.2.exact fair.written ∙ ap (λ (outcome : Outcome). outcome.status) same ∙ sym (too.2.exact sure.written);
      bytes = too.0.bytes;
      first = subst (λ (outcome : Outcome). Appends before now outcome.bytes) same (got.2.whole fair.written);
      second = too.2.whole sure.written;
    }
