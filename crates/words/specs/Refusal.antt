-- The number, the name and the text of each refusal, the refusal of a number, and the number of each rule.
use Rattle.std.specs.Prelude.{ℕ, List, Option, Some, None, ◌++◌, ◌==◌, if◌then◌else◌, codes, decimal}
use Rattle.words.specs.declared.refusal.Refusal.{Refusal}
use Rattle.words.specs.declared.refusal.Refusal.TheVariants.{NoWord, BadMagic, BadCount, Truncated, TrailingBytes, NoMemory, BadClients, BadRecords, StaleNumber, Busy, NoRoom, NotReady, NoClient, Idle, AlreadyReady, BadName, Exists, DirectoryFull, Gap, Old, NoQueue, WrongKind, TooLong, BadJson, BadRequest, ReadFailed, WriteFailed, BadLine, Damaged, BadItem}
use Rattle.words.specs.declared.refusal.Rule.{Rule}
use Rattle.words.specs.declared.refusal.Rule.TheVariants.{Size, Records, Chain, Claims, Ends, Rows, Entries, Image, Directory}

-- the number of a rule of sound words
abbrev pub number_of : Rule → ℕ
number_of Size = 1
number_of Records = 2
number_of Chain = 3
number_of Claims = 4
number_of Ends = 5
number_of Rows = 6
number_of Entries = 7
number_of Image = 8
number_of Directory = 9

abbrev pub code_of : Refusal → ℕ
code_of NoWord = 1
code_of BadMagic = 2
code_of BadCount = 3
code_of Truncated = 4
code_of TrailingBytes = 5
code_of NoMemory = 6
code_of BadClients = 7
code_of BadRecords = 8
code_of StaleNumber = 9
code_of Busy = 10
code_of NoRoom = 11
code_of NotReady = 12
code_of NoClient = 13
code_of Idle = 14
code_of AlreadyReady = 15
code_of BadName = 16
code_of Exists = 17
code_of DirectoryFull = 18
code_of Gap = 19
code_of Old = 20
code_of NoQueue = 21
code_of WrongKind = 22
code_of TooLong = 23
code_of BadJson = 24
code_of BadRequest = 25
code_of ReadFailed = 26
code_of WriteFailed = 27
code_of (BadLine line) = 28
code_of (Damaged rule) = 29
code_of BadItem = 30

-- the refusal that has this number, if that is all there is to know of it
abbrev pub refusal_at : ℕ → Option Refusal
refusal_at n =
    if n == 1 then Some NoWord
    else (if n == 2 then Some BadMagic
    else (if n == 3 then Some BadCount
    else (if n == 4 then Some Truncated
    else (if n == 5 then Some TrailingBytes
    else (if n == 6 then Some NoMemory
    else (if n == 7 then Some BadClients
    else (if n == 8 then Some BadRecords
    else (if n == 9 then Some StaleNumber
    else (if n == 10 then Some Busy
    else (if n == 11 then Some NoRoom
    else (if n == 12 then Some NotReady
    else (if n == 13 then Some NoClient
    else (if n == 14 then Some Idle
    else (if n == 15 then Some AlreadyReady
    else (if n == 16 then Some BadName
    else (if n == 17 then Some Exists
    else (if n == 18 then Some DirectoryFull
    else (if n == 19 then Some Gap
    else (if n == 20 then Some Old
    else (if n == 21 then Some NoQueue
    else (if n == 22 then Some WrongKind
    else (if n == 23 then Some TooLong
    else (if n == 24 then Some BadJson
    else (if n == 25 then Some BadRequest
    else (if n == 26 then Some ReadFailed
    else (if n == 27 then Some WriteFailed
    else (if n == 30 then Some BadItem
    else None)))))))))))))))))))))))))))

abbrev pub name_of : Refusal → List ℕ
name_of NoWord = codes "NoWord"
name_of BadMagic = codes "BadMagic"
name_of BadCount = codes "BadCount"
name_of Truncated = codes "Truncated"
name_of TrailingBytes = codes "TrailingBytes"
name_of NoMemory = codes "NoMemory"
name_of BadClients = codes "BadClients"
name_of BadRecords = codes "BadRecords"
name_of StaleNumber = codes "StaleNumber"
name_of Busy = codes "Busy"
name_of NoRoom = codes "NoRoom"
name_of NotReady = codes "NotReady"
name_of NoClient = codes "NoClient"
name_of Idle = codes "Idle"
name_of AlreadyReady = codes "AlreadyReady"
name_of BadName = codes "BadName"
name_of Exists = codes "Exists"
name_of DirectoryFull = codes "DirectoryFull"
name_of Gap = codes "Gap"
name_of Old = codes "Old"
name_of NoQueue = codes "NoQueue"
name_of WrongKind = codes "WrongKind"
name_of TooLong = codes "TooLong"
name_of BadJson = codes "BadJson"
name_of BadRequest = codes "BadRequest"
name_of ReadFailed = codes "ReadFailed"
name_of WriteFailed = codes "WriteFailed"
name_of (BadLine line) = codes "BadLine"
name_of (Damaged rule) = codes "Damaged"
name_of BadItem = codes "BadItem"

-- the number, a space and the name
abbrev pub refusal_text : Refusal → List ℕ
refusal_text refusal = decimal (code_of refusal) ++ codes " " ++ name_of refusal
