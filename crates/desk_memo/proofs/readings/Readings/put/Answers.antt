use Rattle.std.proofs.Common.{◌≡◌, ◌∙◌, ◌<◌, None, Some, length, set, ap, sym, arith}
use Rattle.desk_files.specs.Sources.{is_named, place_of}
use Rattle.check_conditions.specs.Foreign.{nothing_asked}
use Rattle.desk_memo.specs.Readings.{blank_in}
use Rattle.desk_memo.specs.ShownReadings.{conditions_of, marked, modules_of, readings_in, readings_of}
use Rattle.desk_memo.proofs.Known.{known_length, known_with}
use Rattle.desk_memo.proofs.MadeReadings.{held_length, same_length, vec_length}
use Rattle.desk_memo.proofs.Placed.{at_place, behind_all, place_within, stays}
use Rattle.desk_memo.proofs.Put.{blanked, put_at, put_behind, put_same}
use Rattle.desk_memo.proofs.readings.Readings.put.Goals as goal

pub index_mut-requires : goal.index_mut-requires
index_mut-requires g c =
    let there : Some c.in-Some.place ≡ place_of c.args.file.now.name c.args.files.now =
    c.in-Some.ensures ∙ ap (λ it. place_of it c.args.files.now) c.as_bytes-name.ensures in
    let inside : c.in-Some.place < length c.args.files.now = place_within c.args.file.now.name c.args.files.now c.in-Some.place c.args.file.now there in
    omega (arith, held_length c.args.files.now c.args.self.now.readings.items (modules_of c.args.self.now) c.requires.right, c.args.self.now.readings.ok.0)

pub put_blank-requires-else-is_named-clause-within : goal.put_blank-requires-else-is_named-clause-within
put_blank-requires-else-is_named-clause-within g c =
    let there : Some c.in-Some.place ≡ place_of c.args.file.now.name c.args.files.now =
    c.in-Some.ensures ∙ ap (λ it. place_of it c.args.files.now) c.as_bytes-name.ensures in
    let inside : c.in-Some.place < length c.args.files.now = place_within c.args.file.now.name c.args.files.now c.in-Some.place c.args.file.now there in
    omega (arith, held_length c.args.files.now c.args.self.now.readings.items (modules_of c.args.self.now) c.requires.right, c.args.self.now.readings.ok.0)

pub put_blank-requires-else-is_named-2-clause-within : goal.put_blank-requires-else-is_named-2-clause-within
put_blank-requires-else-is_named-2-clause-within g c =
    let there : Some c.in-Some.place ≡ place_of c.args.file.now.name c.args.files.now =
    c.in-Some.ensures ∙ ap (λ it. place_of it c.args.files.now) c.as_bytes-name.ensures in
    let inside : c.in-Some.place < length c.args.files.now = place_within c.args.file.now.name c.args.files.now c.in-Some.place c.args.file.now there in
    omega (arith, vec_length c.args.files.now (readings_of c.args.self.now) c.args.self.now.modules.items c.requires.right, c.args.self.now.modules.ok.0)

pub put_blank-requires-else-is_named-3-clause-within : goal.put_blank-requires-else-is_named-3-clause-within
put_blank-requires-else-is_named-3-clause-within g c =
    let there : Some c.in-Some.place ≡ place_of c.args.file.now.name c.args.files.now =
    c.in-Some.ensures ∙ ap (λ it. place_of it c.args.files.now) c.as_bytes-name.ensures in
    let inside : c.in-Some.place < length c.args.files.now = place_within c.args.file.now.name c.args.files.now c.in-Some.place c.args.file.now there in
    let many =
    same_length c.args.files.now (readings_of c.args.self.now) (modules_of c.args.self.now) c.requires.right
    ∙ known_length (readings_of c.args.self.now) (conditions_of c.args.self.now) c.requires.known in
    omega (arith, many, c.args.self.now.conditions.ok.0)

pub returns-in-None : goal.returns-in-None
returns-in-None g c =
    let is =
    put_behind c.args.file.now c.args.files.now c.args.self.now.readings.items c.put_blank.new.kept.items c.args.self.now.modules.items c.put_blank-in-None.new.kept.items
    (blanked c.args.file.now None c.args.files.now c.args.self.now.readings.items c.put_blank.new.kept.items c.args.self.now.modules.items c.put_blank-in-None.new.kept.items c.new.result
    (record { right = c.requires.right; flagged = c.requires.flagged }) c.new.ensures.items c.put_blank.ensures c.put_blank-in-None.ensures)
    (c.in-None.ensures ∙ ap (λ it. place_of it c.args.files.now) c.as_bytes-name.ensures) in
    let asked =
    c.put_blank-in-None-2.ensures
    ∙ ap (λ it. blank_in it None (conditions_of c.args.self.now)) c.new-in-None.ensures
    ∙ sym (behind_all nothing_asked (conditions_of c.args.self.now) c.args.file.now.name c.args.files.now (c.in-None.ensures ∙ ap (λ it. place_of it c.args.files.now) c.as_bytes-name.ensures)) in
    record {
      readings = is.readings;
      modules = is.modules;
      conditions = asked;
      right = is.right;
      known =
          known_with c.args.file.now.name c.args.files.now (readings_of c.args.self.now) (readings_in c.put_blank.new.kept.items) (conditions_of c.args.self.now) c.put_blank-in-None-2.new.kept.items c.requires.known is.readings asked;
      flagged = is.flagged;
    }

pub returns-then-is_named : goal.returns-then-is_named
returns-then-is_named g c =
    let there : Some c.in-Some.place ≡ place_of c.args.file.now.name c.args.files.now =
    c.in-Some.ensures ∙ ap (λ it. place_of it c.args.files.now) c.as_bytes-name.ensures in
    let inside : c.in-Some.place < length c.args.files.now = place_within c.args.file.now.name c.args.files.now c.in-Some.place c.args.file.now there in
    let is =
    put_same c.args.file.now c.in-Some.place c.args.files.now c.args.self.now.readings.items (set c.args.self.now.readings.items c.in-Some.place c.mark.new.reading) c.args.self.now.modules.items c.index-files-place.result c.index_mut.result.now
    (record { right = c.requires.right; flagged = c.requires.flagged })
    (ap (λ it. set c.args.self.now.readings.items c.in-Some.place it) (c.mark.ensures ∙ ap (λ it. marked c.args.file.now it) c.index_mut.ensures.value))
    there inside c.index-files-place.is (sym (ap (λ it. is_named it c.index-files-place.result) c.as_bytes-name.ensures) ∙ sym c.is_named.ensures ∙ c.if-is_named.true) in
    let asked =
    sym (stays nothing_asked (conditions_of c.args.self.now) c.args.file.now.name c.args.files.now c.in-Some.place c.index-files-place.result there inside c.index-files-place.is (sym (ap (λ it. is_named it c.index-files-place.result) c.as_bytes-name.ensures) ∙ sym c.is_named.ensures ∙ c.if-is_named.true)) in
    record {
      readings = is.readings;
      modules = is.modules;
      conditions = asked;
      right = is.right;
      known =
          known_with c.args.file.now.name c.args.files.now (readings_of c.args.self.now) (readings_in (set c.args.self.now.readings.items c.in-Some.place c.mark.new.reading)) (conditions_of c.args.self.now) (conditions_of c.args.self.now) c.requires.known is.readings asked;
      flagged = is.flagged;
    }

pub returns-else-is_named : goal.returns-else-is_named
returns-else-is_named g c =
    let there : Some c.in-Some.place ≡ place_of c.args.file.now.name c.args.files.now =
    c.in-Some.ensures ∙ ap (λ it. place_of it c.args.files.now) c.as_bytes-name.ensures in
    let inside : c.in-Some.place < length c.args.files.now = place_within c.args.file.now.name c.args.files.now c.in-Some.place c.args.file.now there in
    let is =
    put_at c.args.file.now c.in-Some.place c.args.files.now c.args.self.now.readings.items c.put_blank-else-is_named.new.kept.items c.args.self.now.modules.items c.put_blank-else-is_named-2.new.kept.items c.index-files-place.result
    (blanked c.args.file.now (Some c.in-Some.place) c.args.files.now c.args.self.now.readings.items c.put_blank-else-is_named.new.kept.items c.args.self.now.modules.items c.put_blank-else-is_named-2.new.kept.items c.new-else-is_named.result
    (record { right = c.requires.right; flagged = c.requires.flagged }) c.new-else-is_named.ensures.items c.put_blank-else-is_named.ensures c.put_blank-else-is_named-2.ensures)
    there inside c.index-files-place.is (sym (ap (λ it. is_named it c.index-files-place.result) c.as_bytes-name.ensures) ∙ sym c.is_named.ensures ∙ c.if-is_named.false) in
    let asked =
    c.put_blank-else-is_named-3.ensures
    ∙ ap (λ it. blank_in it (Some c.in-Some.place) (conditions_of c.args.self.now)) c.new-else-is_named-2.ensures
    ∙ sym (at_place nothing_asked (conditions_of c.args.self.now) c.args.file.now.name c.args.files.now c.in-Some.place c.index-files-place.result there inside c.index-files-place.is (sym (ap (λ it. is_named it c.index-files-place.result) c.as_bytes-name.ensures) ∙ sym c.is_named.ensures ∙ c.if-is_named.false)) in
    record {
      readings = is.readings;
      modules = is.modules;
      conditions = asked;
      right = is.right;
      known =
          known_with c.args.file.now.name c.args.files.now (readings_of c.args.self.now) (readings_in c.put_blank-else-is_named.new.kept.items) (conditions_of c.args.self.now) c.put_blank-else-is_named-3.new.kept.items c.requires.known is.readings asked;
      flagged = is.flagged;
    }
