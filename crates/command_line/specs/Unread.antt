-- The line for a file that can't be opened or read.
use Rattle.std.specs.Prelude.{ℕ, List, [], ◌∷◌, ◌++◌, codes}
use Rattle.commands.specs.Refusal.{fault_words}
use Rattle.source_text.specs.declared.fault.Fault.TheVariants.{ReadFailed}
use Rattle.command_line.specs.Shown.{escaped_name}
use Rattle.command_line.specs.declared.unread.ReadFailure.{ReadFailure}
use Rattle.command_line.specs.declared.unread.ReadFailure.TheVariants.{Missing, Folder, NotPermitted, LinkCircle, Twice, InList, NotUtf8, Other}

-- what stands behind the name: nothing where the reason isn't known
abbrev pub failure_words : ReadFailure → List ℕ
failure_words Missing = codes ": missing"
failure_words Folder = codes ": a folder"
failure_words NotPermitted = codes ": not permitted"
failure_words LinkCircle = codes ": links in a circle"
failure_words Twice = codes ": both files are standard input"
failure_words InList = codes ": standard input in a list"
failure_words NotUtf8 = codes ": the name is not UTF-8"
failure_words Other = []

-- the words before the name
abbrev pub unread_words : List ℕ
unread_words = codes "jslint: " ++ fault_words ReadFailed 0 0 ++ codes ": "

-- the line, by what the name is shown as, with its line feed
abbrev pub unread_line_of : List ℕ → ReadFailure → List ℕ
unread_line_of shown failure = unread_words ++ shown ++ (failure_words failure ++ 10 ∷ [])

-- the line for a name
abbrev pub unread_line : List ℕ → ReadFailure → List ℕ
unread_line name failure = unread_line_of (escaped_name name) failure
