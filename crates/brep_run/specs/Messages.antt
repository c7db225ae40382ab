-- The status and the message of each outcome.
use Rattle.std.specs.Prelude.{ℕ, List, [], ◌++◌, codes}
use Rattle.std.specs.Fmt.{decimal}
use Rattle.std.specs.List.{flat_map}
use Rattle.brep_run.specs.declared.outcome.Outcome.{Outcome}
use Rattle.brep_tokens.specs.declared.fault.ReadCode.{ReadCode}
use Rattle.brep_tokens.specs.declared.fault.ReadCode.TheVariants.{NoVersion, VersionNotRead, WordExpected}
use Rattle.brep_tokens.specs.declared.fault.ReadCode.TheVariants.{NumberExpected, DecimalExpected, FlagExpected}
use Rattle.brep_tokens.specs.declared.fault.ReadCode.TheVariants.{TokenTooLong, UnknownCode, IndexOutOfRange}
use Rattle.brep_tokens.specs.declared.fault.ReadCode.TheVariants.{UseExpected, NotAbove, KindOrder, TooDeep}
use Rattle.brep_tokens.specs.declared.fault.ReadCode.TheVariants.{TooMany, NestLimit, WordLimit, Truncated, Tail}
use Rattle.brep_run.specs.declared.outcome.Outcome.TheVariants.{Done, Usage, NotBuilt, File, Script, Cycle}
use Rattle.brep_run.specs.declared.outcome.Outcome.TheVariants.{Limit, ReadDesk, WriteDesk, NoMemory}
use Rattle.key_results.specs.declared.fault.LimitKind.{LimitKind}
use Rattle.key_results.specs.declared.fault.LimitKind.TheVariants.{FileBytes, ScriptBytes, ScriptLines}
use Rattle.key_results.specs.declared.fault.LimitKind.TheVariants.{Steps, Rank, Keys, WordPairs, WordPower}
use Rattle.key_results.specs.declared.fault.LimitKind.TheVariants.{Uses, Depth, Nodes, Pairs}
use Rattle.script_requests.specs.declared.fault.ScriptCode.{ScriptCode}
use Rattle.script_requests.specs.declared.fault.ScriptCode.TheVariants.{Syntax, NoSuchShape, NoSuchLocation}
use Rattle.script_requests.specs.declared.fault.ScriptCode.TheVariants.{KindMismatch, ManyImages, EndsDiffer}
use Rattle.script_requests.specs.declared.fault.ScriptCode.TheVariants.{NothingToUndo}

abbrev pub status_of : Outcome → ℕ
status_of Done = 0
status_of Usage = 2
status_of (File fault) = 3
status_of (Script fault) = 4
status_of (Cycle walk) = 5
status_of (Limit which count) = 6
status_of (ReadDesk before after) = 7
status_of (WriteDesk before after file taken) = 8
status_of NoMemory = 9
status_of NotBuilt = 10

abbrev pub limit_word : LimitKind → List ℕ
limit_word FileBytes = codes "file-bytes"
limit_word ScriptBytes = codes "script-bytes"
limit_word ScriptLines = codes "script-lines"
limit_word Steps = codes "steps"
limit_word Rank = codes "rank"
limit_word Keys = codes "keys"
limit_word WordPairs = codes "word-pairs"
limit_word WordPower = codes "word-power"
limit_word Uses = codes "uses"
limit_word Depth = codes "depth"
limit_word Nodes = codes "nodes"
limit_word Pairs = codes "pairs"

abbrev pub code_word : ReadCode → List ℕ
code_word NoVersion = codes "no-version"
code_word VersionNotRead = codes "version-not-read"
code_word WordExpected = codes "word-expected"
code_word NumberExpected = codes "number-expected"
code_word DecimalExpected = codes "decimal-expected"
code_word FlagExpected = codes "flag-expected"
code_word TokenTooLong = codes "token-too-long"
code_word UnknownCode = codes "unknown-code"
code_word IndexOutOfRange = codes "index-out-of-range"
code_word UseExpected = codes "use-expected"
code_word NotAbove = codes "not-above"
code_word KindOrder = codes "kind-order"
code_word TooDeep = codes "too-deep"
code_word TooMany = codes "too-many"
code_word NestLimit = codes "nest-limit"
code_word WordLimit = codes "word-limit"
code_word Truncated = codes "truncated"
code_word Tail = codes "tail"

abbrev pub script_word : ScriptCode → List ℕ
script_word Syntax = codes "syntax"
script_word NoSuchShape = codes "no-such-shape"
script_word NoSuchLocation = codes "no-such-location"
script_word KindMismatch = codes "kind-mismatch"
script_word ManyImages = codes "many-images"
script_word EndsDiffer = codes "ends-differ"
script_word NothingToUndo = codes "nothing-to-undo"

-- an origin on a cycle
abbrev pub spaced_origin : ℕ → List ℕ
spaced_origin origin = codes " " ++ decimal origin

abbrev pub message_of : Outcome → List ℕ
message_of Done = []
message_of Usage =
    codes "usage: copy IN OUT; rewrite IN SCRIPT OUT HIST; list IN KIND OUT; walk IN KIND N OUT; gen SEED LEVELS OUT"
message_of (Limit which count) = codes "limit " ++ (limit_word which ++ (codes " " ++ decimal count))
message_of (File fault) =
    codes "file " ++ (code_word fault.code ++ (codes " at " ++ (decimal fault.offset
    ++ (codes " value " ++ (decimal fault.value ++ (codes " limit " ++ decimal fault.limit))))))
message_of (Script fault) =
    codes "script line " ++ (decimal fault.line ++ (codes " " ++ (script_word fault.code
    ++ (codes " " ++ (decimal fault.first ++ (codes " " ++ decimal fault.second))))))
message_of (Cycle walk) = codes "cycle" ++ flat_map spaced_origin walk
message_of (ReadDesk before after) = codes "read fault " ++ (decimal before ++ (codes " " ++ decimal after))
message_of (WriteDesk before after file taken) =
    codes "write fault " ++ (decimal before ++ (codes " " ++ (decimal after
    ++ (codes " file " ++ (decimal file ++ (codes " taken " ++ decimal taken))))))
message_of NoMemory = codes "no memory"
message_of NotBuilt = codes "not built"
