-- The files of a line, and why there is nothing to read under a name.
use Rattle.std.specs.Prelude.{◌≡◌, ◌⊎◌, ◌&&◌, Bool, false, Option, Some, Err, option_map}
use Rattle.std.specs.Option.{option_map_or}
use Rattle.std.specs.declared.io.ErrorKind.{ErrorKind as IoErrorKind}
use Rattle.std.specs.declared.io.ErrorKind.TheVariants as io_error_kind
use Rattle.clap.specs.Words.{Text}
use Rattle.command_line.specs.declared.line.Line.{Line}
use Rattle.command_line.specs.declared.unread.ReadFailure.{ReadFailure}
use Rattle.command_line.specs.declared.unread.ReadFailure.TheVariants.{Missing, Folder, NotPermitted, LinkCircle, Other}
use Rattle.jslint.specs.Opened.{Contents, is_input}

-- the name of the second file, where there is one
abbrev pub second_name : Line → Option Text
second_name line = option_map (λ s. s.now) line.second

-- whether both files of a line are standard input
abbrev pub is_twice : Line → Bool
is_twice line = option_map_or (λ (name : Text). is_input line.file.now && is_input name) (second_name line) false

-- the name of a file of a line
abbrev pub IsNamed : Line → Text → Type 0
IsNamed line name = (name ≡ line.file.now) ⊎ (second_name line ≡ Some name)

-- why a file can't be opened, by the kind of the system's error
abbrev pub failure_of : IoErrorKind → ReadFailure
failure_of io_error_kind.NotFound = Missing
failure_of io_error_kind.NotADirectory = Missing
failure_of io_error_kind.IsADirectory = Folder
failure_of io_error_kind.PermissionDenied = NotPermitted
failure_of io_error_kind.FilesystemLoop = LinkCircle
failure_of _ = Other

-- the opening of the file of a name, or the read of standard input, gave an error, which is why there is nothing to read
abbrev pub IsFailure : Contents → Text → ReadFailure → Type 0
IsFailure gives name failure = (kind : IoErrorKind) × gives name (Err kind) × (failure ≡ failure_of kind)

-- of what was opened it is only told that it is a folder
abbrev pub IsOfOpened : ReadFailure → Type 0
IsOfOpened failure = (failure ≡ Folder) ⊎ (failure ≡ Other)
