use Rattle.row_laws.proofs.RowNumbers.{script_numbers}
use Rattle.language_laws.proofs.EachLanguage.{derived_lined_in}
use Rattle.language_laws.proofs.derived_numbers_rows_in.Goals as goal

pub returns : goal.returns
returns c = λ language text n P d. script_numbers n (derived_lined_in language text n P d)
