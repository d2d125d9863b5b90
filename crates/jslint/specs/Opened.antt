-- What is read under a name: an opened file, or standard input; and why there is nothing to read.
use Rattle.std.specs.Prelude.{◌≡◌, ℕ, List, Bool, true, false, Option, Result, Ok, Err, bytes_eq, codes}
use Rattle.std.specs.declared.io.ErrorKind.{ErrorKind}
use Rattle.clap.specs.Words.{Text}
use Rattle.jslint.specs.declared.opened.Opened.{Opened}
use Rattle.jslint.specs.declared.opened.Opened.TheVariants.{File, Input}

-- what a reader has, by which it is
abbrev pub of_either : {F I X : Type 0} → (F → X) → (I → X) → Opened F I → X
of_either of_file of_input (File file) = of_file file
of_either of_file of_input (Input input) = of_input input

-- whether a name stands for standard input
abbrev pub is_input : Text → Bool
is_input name = bytes_eq name (codes "-")

-- What there is to read under a name, or the kind of the error for which there is nothing.
abbrev pub Contents : Type 1
Contents = Text → Result (Option (List ℕ)) ErrorKind → Type 0

-- by what an opening of the file may answer, a read of standard input, and what each of them has to give
abbrev pub GivesBy : {F I : Type 0} → (Result F ErrorKind → Type 0) → (Result ℕ ErrorKind → Type 0) → (F → Option (List ℕ)) → (I → Option (List ℕ)) → Bool → Result (Option (List ℕ)) ErrorKind → Type 0
GivesBy {F} {I} opens reads of_file of_input true (Ok given) = (input : I) × (given ≡ of_input input)
GivesBy {F} {I} opens reads of_file of_input true (Err kind) = reads (Err kind)
GivesBy {F} {I} opens reads of_file of_input false (Ok given) = (file : F) × opens (Ok file) × (given ≡ of_file file)
GivesBy {F} {I} opens reads of_file of_input false (Err kind) = opens (Err kind)

-- under `-` standard input, under any other name the file of that name
abbrev pub Gives : {F I : Type 0} → (Text → Result F ErrorKind → Type 0) → (Result ℕ ErrorKind → Type 0) → (F → Option (List ℕ)) → (I → Option (List ℕ)) → Contents
Gives opens reads of_file of_input name given = GivesBy (opens name) reads of_file of_input (is_input name) given
