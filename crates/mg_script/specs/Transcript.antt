-- How answers, end lines, script lines and faults are spelled.
use Rattle.std.specs.Prelude.{ℕ, List, [], ◌++◌, codes, Option, None, Some, Result, Ok, Err}
use Rattle.std.specs.Fmt.{decimal}
use Rattle.std.specs.List.{flat_map}
use Rattle.mg_types.specs.declared.documents.Doc.{Doc}
use Rattle.mg_types.specs.declared.items.Item.{Item}
use Rattle.mg_types.specs.declared.faults.Fault.{Fault}
use Rattle.mg_types.specs.declared.faults.Fault.TheVariants as fault
use Rattle.mg_types.specs.declared.names.FileId.{FileId}
use Rattle.mg_types.specs.declared.faults.Why.{Why}
use Rattle.mg_types.specs.declared.faults.Why.TheVariants as why
use Rattle.mg_model.specs.declared.replies.Answer.{Answer}
use Rattle.mg_model.specs.declared.replies.Reply.{Reply}
use Rattle.mg_model.specs.declared.replies.Reply.TheVariants as reply
use Rattle.mg_types.specs.Names.{kind_code}
use Rattle.mg_script.specs.Tokens.{token_of}

-- a word and the number behind it
abbrev pub field : List ℕ → ℕ → List ℕ
field word n = word ++ decimal n

-- what became of a key: its new document, or that it is gone
abbrev pub change_text : List ℕ → Option Doc → List ℕ
change_text key None = codes " del " ++ token_of key
change_text key (Some doc) = codes " set " ++ token_of key ++ codes " " ++ token_of doc

-- an item of a feed
unfoldable pub item_text : Item → List ℕ
item_text item = field (codes " [") item.seq ++ change_text item.key item.doc ++ codes "]"

-- a mark, or a dash where there is none
abbrev pub mark_text : Option ℕ → List ℕ
mark_text None = codes "-"
mark_text (Some mark) = decimal mark

-- a reply
unfoldable pub reply_text : Reply → List ℕ
reply_text (reply.Seq seq) = field (codes "seq ") seq
reply_text (reply.Found seq doc) = field (codes "doc ") seq ++ codes " " ++ token_of doc
reply_text reply.Absent = codes "none"
reply_text (reply.Feed epoch end items) = field (codes "feed ") epoch ++ field (codes " ") end ++ flat_map item_text items
reply_text (reply.Ahead length) = field (codes "ahead ") length
reply_text (reply.Epoch epoch) = field (codes "epoch ") epoch
reply_text (reply.Marked mark) = field (codes "marked ") mark
reply_text (reply.Full kept) = field (codes "full ") kept
reply_text (reply.Forgot mark) = field (codes "forgot ") mark
reply_text (reply.NoMark mark) = field (codes "nomark ") mark
reply_text (reply.Back mark epoch) = field (codes "back ") mark ++ field (codes " ") epoch
reply_text (reply.Reset least) = codes "reset " ++ mark_text least
reply_text (reply.Cleared epoch) = field (codes "cleared ") epoch
reply_text reply.Synced = codes "synced"
reply_text (reply.Compacted through keys bytes) = field (codes "compact ") through ++ field (codes " ") keys ++ field (codes " ") bytes
reply_text (reply.Stats length live bytes marks epoch) =
    field (codes "stats ") length ++ field (codes " ") live ++ field (codes " ") bytes ++ field (codes " ") marks ++ field (codes " ") epoch

-- a fault that a line can have, in a word
abbrev pub fault_word : Fault → List ℕ
fault_word fault.NoMemory = codes "fault memory"
fault_word fault.ReadFault = codes "fault read"
fault_word fault.WriteFault = codes "fault write"
fault_word (fault.Damaged file at kept found) = codes "fault damaged"
fault_word (fault.Malformed file at) = codes "fault malformed"
fault_word (fault.Worn kept) = codes "fault worn"
fault_word other = []

-- a fault that a line can have
abbrev pub IsLineFault : Fault → Type 0
IsLineFault fault.NoMemory = Unit {0}
IsLineFault fault.ReadFault = Unit {0}
IsLineFault fault.WriteFault = Unit {0}
IsLineFault (fault.Damaged file at kept found) = Unit {0}
IsLineFault (fault.Malformed file at) = Unit {0}
IsLineFault (fault.Worn kept) = Unit {0}
IsLineFault other = ⊥

-- what a call gave
abbrev pub result_text : Result Reply Fault → List ℕ
result_text (Ok reply) = reply_text reply
result_text (Err fault) = fault_word fault

-- a place, or a dash where there is none
abbrev pub place_text : Option ℕ → List ℕ
place_text None = codes " @-"
place_text (Some place) = field (codes " @") place

-- the line of an answer: the client, which of its calls this is, the partition, the place and what the call gave
unfoldable pub answer_line : ℕ → ℕ → ℕ → Answer → List ℕ
answer_line client n part answer = decimal client ++ field (codes " ") n ++ field (codes " ") part ++ place_text answer.place ++ codes " " ++ result_text answer.result ++ codes "\n"

-- the end line of a partition: its calls, its length and its epoch
unfoldable pub end_line : ℕ → ℕ → ℕ → ℕ → List ℕ
end_line part calls length epoch = field (codes "end ") part ++ field (codes " ") calls ++ field (codes " ") length ++ field (codes " ") epoch ++ codes "\n"

-- a file's partition, kind and number, behind a word
abbrev pub file_text : List ℕ → FileId → List ℕ
file_text word file = field word file.part ++ field (codes " ") (kind_code file.kind) ++ field (codes " ") file.number

-- the word for what is wrong with a line
abbrev pub why_word : Why → List ℕ
why_word why.Ending = codes "ending"
why_word why.Client = codes "client"
why_word why.Verb = codes "verb"
why_word why.Part = codes "partition"
why_word why.Key = codes "key"
why_word why.Doc = codes "document"
why_word why.Number = codes "number"
why_word why.Extra = codes "extra"

-- a fault, as the program says it on standard error
unfoldable pub fault_message : Fault → List ℕ
fault_message fault.NoMemory = codes "no memory"
fault_message fault.ReadFault = codes "read fault"
fault_message fault.WriteFault = codes "write fault"
fault_message (fault.Damaged file at kept found) = file_text (codes "damaged ") file ++ field (codes " at ") at ++ field (codes " kept ") kept ++ field (codes " found ") found
fault_message (fault.Missing file) = file_text (codes "missing ") file
fault_message (fault.Gap part applied low high) = field (codes "gap ") part ++ field (codes " applied ") applied ++ field (codes " low ") low ++ field (codes " high ") high
fault_message (fault.BadLine line why) = field (codes "line ") line ++ codes ": " ++ why_word why
fault_message (fault.TooLong limit) = field (codes "input over ") limit ++ codes " bytes"
fault_message fault.BadWords = codes "bad words"
fault_message (fault.BadSettings at) = field (codes "settings ") at
fault_message (fault.FewerParts asked kept) = field (codes "partitions asked ") asked ++ field (codes " kept ") kept
fault_message (fault.Malformed file at) = file_text (codes "malformed ") file ++ field (codes " at ") at
fault_message (fault.Worn kept) = field (codes "worn ") kept
