-- What the generate constructs of a module make in an instance: items, with the names of their blocks before those that the blocks
-- declare (IEEE 1364-2001 section 12.1.3).
-- Worked examples: proofs/Examples.antt.
use Rattle.std.specs.Prelude.{ℕ, zero, suc, ◌+◌, ◌-◌, nat_le, ℤ, pos, negsuc, Bool, true, false, cond, List, [], ◌∷◌, ◌++◌, take, drop, codes, Option, Some, None, Ok, Err}
use Rattle.std.specs.Fmt.{decimal}
use Rattle.std.specs.Ordering.{int_eq}
use Rattle.std.specs.Str.{bytes_eq}
use Rattle.rtl_const.specs.Constant.{Outcome, constant, is_true}
use Rattle.rtl_const.specs.declared.fault.ConstFault.TheVariants.{Overflow}
use Rattle.rtl_tree.specs.declared.literal.Literal.{Literal}
use Rattle.rtl_tree.specs.declared.tree.item.ParameterKind.TheVariants as kind
use Rattle.rtl_tree.specs.TreeExpr.{Formula, Identifier, Number}
use Rattle.rtl_tree.specs.TreeItem.{ModuleItem, Gates, Parameters}
use Rattle.rtl_tree.specs.TreeModule.{Circuit, Construct}
use Rattle.rtl_tree.specs.TreeWritten.{WrittenItem, Plain, Primitives, Genvars, Region, If, IfElse, Case, For, WrittenItems, no_items, more_items, GenerateBlock, Null, Single, Block, GenerateChoice, Labelled, Default, GenerateChoices, no_choices, more_choices}
use Rattle.elab_scope.specs.declared.known.Known.{Known}
use Rattle.elab_scope.specs.declared.known.Known.TheVariants as known
use Rattle.elab_scope.specs.Faults.{Refusal, Const, Genvar, TooManyTurns}
use Rattle.elab_scope.specs.Rules.{fault}
use Rattle.elab_items.specs.declared.reach.Reach.TheVariants.{Scalar}
use Rattle.elab_items.specs.Declarations.{item_declarations, head_parameters, header_declarations}
use Rattle.elab_items.specs.Drafts.{numberless}
use Rattle.elab_items.specs.Settings.{Settings, no_settings}
use Rattle.elab_renames.specs.Modules.{with_items}
use Rattle.elab_expand.specs.Scoping.{Scopes, inside, meaning_in, no_scopes, numbers_at, with_declarations, with_name, with_names}
use Rattle.elab_expand.specs.Tallies.{Tally, counted_turn, is_full, judged, no_tally, telling}
use Rattle.elab_expand.specs.Lifting.{Pile, all_lifted}

-- how far the constructs of a module are followed: what the blocks declare so far, the items of the innermost block, and what is told
-- and counted
pub record Opening : Type 0 where
  pub scopes : Scopes
  pub items : List ModuleItem
  pub tally : Tally

abbrev pub with_tally : Opening → Tally → Opening
with_tally o tally = record { scopes = o.scopes; items = o.items; tally = tally }

-- what follows, unless a limit is passed
abbrev pub going_on : Opening → (Opening → Opening) → Opening
going_on o next = cond (is_full o.tally) o (next o)

-- ---- numbers that have to be constant

abbrev pub outcome_in : Opening → Formula → Outcome
outcome_in o e = constant (numbers_at o.scopes) e

abbrev pub judging : Opening → ℕ → Formula → Opening
judging o at e = with_tally o (judged o.scopes at e o.tally)

-- what follows a number, where there is one
abbrev pub with_outcome : Outcome → Opening → (ℤ → Opening → Opening) → Opening
with_outcome (Ok n) o next = next n o
with_outcome (Err cause) o next = o

-- ---- items

-- an item stands in the innermost block, which declares its names
abbrev pub placing : Settings → Opening → ModuleItem → Opening
placing settings o item =
    record {
      scopes = with_declarations settings o.scopes Scalar (item_declarations item);
      items = o.items ++ item ∷ [];
      tally = o.tally;
    }

-- names that stand for nothing else: those of blocks, and genvars
abbrev pub naming : Opening → ℕ → List Identifier → Known → Opening
naming o at names meaning =
    record {
      scopes = with_names o.scopes names meaning;
      items = o.items ++ Gates at names None [] ∷ [];
      tally = o.tally;
    }

abbrev pub labelling : Opening → Identifier → Opening
labelling o label = naming o label.at (label ∷ []) numberless

-- ---- blocks of their own

-- in a block, which declares nothing yet
abbrev pub entering : Opening → Opening
entering o = record { scopes = inside o.scopes; items = []; tally = o.tally }

-- behind a block: its items stand behind those of the block round it, with the block's name before each name that it declares
abbrev pub leaving : List ℕ → ℕ → Opening → Opening → Opening
leaving component at o within =
    let pile : Pile = all_lifted within.scopes.own component at within.items (record { items = o.items; tally = within.tally }) in
    record { scopes = o.scopes; items = pile.items; tally = pile.tally }

abbrev pub block_component : List ℕ → List ℕ
block_component label = label ++ codes "."

-- ---- loops

-- the parts of a loop
pub record Loop : Type 0 where
  pub at : ℕ
  pub index : Identifier
  pub condition : Formula
  pub step : Formula
  pub label : List ℕ

-- the name of a turn's block: that of the loop, and the turn's number
abbrev pub turn_component : List ℕ → ℕ → List ℕ
turn_component label n = label ++ codes "[" ++ decimal n ++ codes "]."

-- the name of a loop's block; each has one by now
abbrev pub loop_label : ℕ → GenerateBlock → Identifier
loop_label at (Block own (Some label) items) = label
loop_label at (Block own None items) = record { text = codes "genblk"; at = at }
loop_label at (Null own) = record { text = codes "genblk"; at = at }
loop_label at (Single item) = record { text = codes "genblk"; at = at }

-- where the genvar has this number
abbrev pub at_number : Identifier → ℤ → Scopes → Scopes
at_number index z s = with_name (inside s) index.text (known.Integer (Some z))

abbrev pub turn_outcome : Loop → Formula → ℤ → Opening → Outcome
turn_outcome loop e z o = constant (numbers_at (at_number loop.index z o.scopes)) e

abbrev pub turn_judged : Loop → Formula → ℤ → Opening → Opening
turn_judged loop e z o = with_tally o (judged (at_number loop.index z o.scopes) loop.at e o.tally)

-- the number of a turn that is made: a genvar isn't negative, and has 32 bits with its sign
abbrev pub turn_number : ℤ → Option ℕ
turn_number (pos n) = cond (nat_le n 2147483647) (Some n) None
turn_number (negsuc n) = None

-- a turn's genvar is a `localparam` of the turn's block
abbrev pub index_literal : ℕ → Literal
index_literal n = record { val = n; unk = 0; width = 32; signed = true; sized = false; radix = 10 }

abbrev pub index_item : Identifier → ℕ → ModuleItem
index_item index n =
    Parameters index.at kind.Local None (record { name = index; value = Number (index_literal n) index.at } ∷ [])

-- in a turn, before the items of its block
abbrev pub turning : Loop → ℕ → Opening → Opening
turning loop n o =
    record { scopes = at_number loop.index (pos n) o.scopes; items = index_item loop.index n ∷ []; tally = o.tally }

-- the items of a turn
abbrev pub turn_made : (Opening → Opening) → Loop → ℕ → Opening → Opening
turn_made body loop n o = leaving (turn_component loop.label n) loop.at o (body (turning loop n o))

-- a turn, and the number of the next one where one may follow
pub record Turn : Type 0 where
  pub next : Option ℤ
  pub opening : Opening

abbrev pub number_in : Outcome → Option ℤ
number_in (Ok n) = Some n
number_in (Err cause) = None

abbrev pub stopping : Opening → Turn
stopping o = record { next = None; opening = o }

abbrev pub stepped : Loop → ℤ → Opening → Turn
stepped loop z o =
    record { next = number_in (turn_outcome loop loop.step z o); opening = turn_judged loop loop.step z o }

abbrev pub turn_if_room : (Opening → Opening) → Loop → ℤ → ℕ → Opening → Turn
turn_if_room body loop z n o =
    cond (is_full o.tally)
    (stopping o)
    (cond (is_full (turn_made body loop n o).tally) (stopping (turn_made body loop n o)) (stepped loop z (turn_made body loop n o)))

abbrev pub one_turn : (Opening → Opening) → Loop → ℤ → Option ℕ → Opening → Turn
one_turn body loop z None o =
    stopping (with_tally o (telling (fault loop.index.at (Const (Overflow loop.index.at)) ∷ []) o.tally))
one_turn body loop z (Some n) o = turn_if_room body loop z n (with_tally o (counted_turn loop.at o.tally))

-- what follows a turn, where one does
abbrev pub followed : (ℤ → Opening → Opening) → Option ℤ → Opening → Opening
followed next None o = o
followed next (Some n) o = next n o

abbrev pub is_taken : Outcome → Bool
is_taken (Ok c) = is_true c
is_taken (Err cause) = false

-- the turns from a number on, of which so many may follow, as long as the condition holds
unfoldable pub turns : (Opening → Opening) → Loop → ℕ → ℤ → Opening → Opening
turns body loop zero z o =
    let j : Opening = turn_judged loop loop.condition z o in
    cond (is_taken (turn_outcome loop loop.condition z o))
    (with_tally j (telling (fault loop.at TooManyTurns ∷ []) j.tally))
    j
turns body loop (suc more) z o =
    let j : Opening = turn_judged loop loop.condition z o in
    let t : Turn = one_turn body loop z (turn_number z) j in
    cond (is_taken (turn_outcome loop loop.condition z o)) (followed (turns body loop more) t.next t.opening) j

abbrev pub is_genvar : Option Known → Bool
is_genvar (Some (known.Integer None)) = true
is_genvar _ = false

-- a loop goes over a genvar, and its step is of the same one
abbrev pub head_faults : Scopes → Identifier → Identifier → List Refusal
head_faults s index stepped =
    cond (is_genvar (meaning_in s index.text)) [] (fault index.at (Genvar index.text) ∷ [])
    ++ cond (bytes_eq index.text stepped.text) [] (fault stepped.at (Genvar stepped.text) ∷ [])

abbrev pub unless_faulty : List Refusal → Opening → (Opening → Opening) → Opening
unless_faulty [] o next = next o
unless_faulty (first ∷ others) o next = with_tally o (telling (first ∷ others) o.tally)

-- a loop declares the name of its block, whatever turns it has
abbrev pub looping : (Opening → Opening) → Loop → Identifier → ℤ → Opening → Opening
looping body loop label first o = turns body loop 4096 first (labelling o label)

-- ---- cases

abbrev pub is_number : Outcome → ℤ → Bool
is_number (Ok m) n = int_eq m n
is_number (Err cause) n = false

-- whether one of these labels has the number; they are worked out up to the first that has it
abbrev pub matches : Scopes → ℤ → List Formula → Bool
matches s n [] = false
matches s n (label ∷ labels) = cond (is_number (constant (numbers_at s) label) n) true (matches s n labels)

abbrev pub labels_judged : Scopes → ℕ → ℤ → List Formula → Tally → Tally
labels_judged s at n [] tally = tally
labels_judged s at n (label ∷ labels) tally =
    cond (is_number (constant (numbers_at s) label) n)
    (judged s at label tally)
    (labels_judged s at n labels (judged s at label tally))

-- which choice is taken: the first with an equal label, else the default; the first of them has this number
abbrev pub pick : Scopes → ℤ → ℕ → GenerateChoices → Option ℕ → Option ℕ
pick s n k no_choices default = default
pick s n k (more_choices (Labelled labels body) others) default =
    cond (matches s n labels) (Some k) (pick s n (k + 1) others default)
pick s n k (more_choices (Default at body) others) default = pick s n (k + 1) others (Some k)

-- the labels of choices are worked out up to the first that is equal
abbrev pub choices_judged : Scopes → ℕ → ℤ → GenerateChoices → Tally → Tally
choices_judged s at n no_choices tally = tally
choices_judged s at n (more_choices (Labelled labels body) others) tally =
    cond (matches s n labels)
    (labels_judged s at n labels tally)
    (choices_judged s at n others (labels_judged s at n labels tally))
choices_judged s at n (more_choices (Default own body) others) tally = choices_judged s at n others tally

-- ---- constructs

abbrev mutual
  -- an item, where an instance sets these parameters
  pub opened_item : Settings → WrittenItem → Opening → Opening
  opened_item settings (Plain item) o = placing settings o item
  opened_item settings (Primitives at kind pause gates) o = o
  opened_item settings (Genvars at names) o = naming o at names (known.Integer None)
  opened_item settings (Region at items) o = opened_items settings items o
  opened_item settings (If at condition taken) o =
      with_outcome (outcome_in o condition) (judging o at condition)
      (λ c o. cond (is_true c) (opened_block settings taken o) o)
  opened_item settings (IfElse at condition taken otherwise) o =
      with_outcome (outcome_in o condition) (judging o at condition)
      (λ c o. cond (is_true c) (opened_block settings taken o) (opened_block settings otherwise o))
  opened_item settings (Case at selector listed) o =
      with_outcome (outcome_in o selector) (judging o at selector)
      (λ n o. opened_choices settings listed (pick o.scopes n 0 listed None) (with_tally o (choices_judged o.scopes at n listed o.tally)))
  opened_item settings (For at index start condition stepped step body) o =
      unless_faulty (head_faults o.scopes index stepped) o
      (λ o. with_outcome (outcome_in o start) (judging o at start)
      (looping (opened_body body) (record { at = at; index = index; condition = condition; step = step; label = (loop_label at body).text }) (loop_label at body)))

  -- items, one after the other, until a limit is passed
  pub opened_items : Settings → WrittenItems → Opening → Opening
  opened_items settings no_items o = o
  opened_items settings (more_items first others) o =
      opened_items settings others (going_on o (opened_item settings first))

  -- the block that an `if` or a `case` takes; one without a label belongs to the scope round it
  pub opened_block : Settings → GenerateBlock → Opening → Opening
  opened_block settings (Null at) o = o
  opened_block settings (Single item) o = opened_item settings item o
  opened_block settings (Block at None items) o = opened_items settings items o
  opened_block settings (Block at (Some label) items) o =
      leaving
      (block_component label.text)
      label.at
      (labelling o label)
      (opened_items no_settings items (entering (labelling o label)))

  -- the items of a loop's block in a turn
  pub opened_body : GenerateBlock → Opening → Opening
  opened_body (Null at) o = o
  opened_body (Single item) o = opened_item no_settings item o
  opened_body (Block at label items) o = opened_items no_settings items o

  -- the choice with this number, where there is one
  pub opened_choices : Settings → GenerateChoices → Option ℕ → Opening → Opening
  opened_choices settings listed None o = o
  opened_choices settings no_choices (Some k) o = o
  opened_choices settings (more_choices first others) (Some zero) o = opened_choice settings first o
  opened_choices settings (more_choices first others) (Some (suc k)) o = opened_choices settings others (Some k) o

  pub opened_choice : Settings → GenerateChoice → Opening → Opening
  opened_choice settings (Labelled labels body) o = opened_block settings body o
  opened_choice settings (Default at body) o = opened_block settings body o

-- the choice of a `case` whose selector has this number
abbrev pub case_opened : Settings → ℕ → ℤ → GenerateChoices → Opening → Opening
case_opened settings at n listed o =
    opened_choices settings listed (pick o.scopes n 0 listed None) (with_tally o (choices_judged o.scopes at n listed o.tally))

-- ---- modules

abbrev pub all_placed : Settings → List ModuleItem → Opening → Opening
all_placed settings [] o = o
all_placed settings (first ∷ others) o = all_placed settings others (placing settings o first)

-- the items of a module, with its constructs between them
abbrev pub opened_module : Settings → ℕ → List ModuleItem → List Construct → Opening → Opening
opened_module settings position items [] o = all_placed settings items o
opened_module settings position items (construct ∷ others) o =
    opened_module settings construct.position (drop (construct.position - position) items) others
    (going_on
    (all_placed settings (take (construct.position - position) items) o)
    (opened_item settings construct.written))

-- what the head of a module declares
abbrev pub beginning : Settings → Circuit → Opening
beginning settings circuit =
    record {
      scopes = with_declarations settings no_scopes Scalar (head_parameters circuit.parameters ++ header_declarations circuit.header);
      items = [];
      tally = no_tally;
    }

abbrev pub opened : Settings → Circuit → Opening
opened settings circuit = opened_module settings 0 circuit.items circuit.constructs (beginning settings circuit)

-- what the constructs of a module make: the module without them, and what is told and counted
pub record Expansion : Type 0 where
  pub circuit : Circuit
  pub tally : Tally

abbrev pub with_pile : Circuit → Pile → Expansion
with_pile circuit pile = record { circuit = with_items circuit pile.items; tally = pile.tally }

-- a module stands alone: its items get no name before theirs
abbrev pub ended : ℕ → Opening → Pile
ended at o = all_lifted o.scopes.own [] at o.items (record { items = []; tally = o.tally })

-- a module without constructs stands for itself
abbrev pub expansion_by : Settings → Circuit → List Construct → Expansion
expansion_by settings circuit [] = record { circuit = circuit; tally = no_tally }
expansion_by settings circuit (first ∷ others) = with_pile circuit (ended circuit.at (opened settings circuit))

unfoldable pub expansion : Settings → Circuit → Expansion
expansion settings circuit = expansion_by settings circuit circuit.constructs
