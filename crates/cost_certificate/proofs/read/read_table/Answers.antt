use Rattle.std.proofs.Common.{arith, ◌+◌, length, length-append, ap, sym, ◌∙◌, subst}
use Rattle.std.specs.Prelude.{map, option_map}
use Rattle.cost_table.specs.Rows.{shown}
use Rattle.cost_certificate.specs.Forms.{read_text, read_rows, row_in, split_lines, split_words, total_in}
use Rattle.cost_certificate.specs.SaidRows.{said}
use Rattle.cost_certificate.specs.Words.{IsLine, format_of}
use Rattle.cost_certificate.proofs.Fronts.{is_none, is_some}
use Rattle.cost_certificate.proofs.RowLines.{behind_rows, first_line, row_on, bad_on, ends, total_on, more_on, row_eight, row_added, reads_bad, reads_table}
use Rattle.cost_certificate.proofs.read.read_table.Goals as goal

pub returns-then-not-is_empty-clause-table : goal.returns-then-not-is_empty-clause-table
returns-then-not-is_empty-clause-table c =
    let others = c.split_line-in-Some-line_length.result.1.now in
    let line = c.split_line-in-Some-line_length.result.0.now in
    let rest = c.lines.rest.now in
    let first = first_line rest line others c.in-Some-line_length.length (subst (IsLine rest) c.in-Some-line_length.is c.line_length-in-lines.ensures) c.split_line-in-Some-line_length.ensures.line c.split_line-in-Some-line_length.ensures.behind in
    reads_bad (read_text c.args.text.now) (c.lines.expected + 1) c.bad-then-not-is_empty.result
    (more_on (read_text c.args.text.now) (map shown c.lines.table.rows.items) (format_of c.in-Some-header.format) c.lines.expected c.in-Some-total.total rest line others c.lines.invariant.read first (ap total_in c.split_word.ensures.words ∙ sym c.total.ensures ∙ c.in-Some-total.is)
    (is_some others c.is_empty.result c.is_empty.ensures c.if-not-is_empty.true))
    c.bad-then-not-is_empty.ensures

pub returns-in-Some-total-clause-table : goal.returns-in-Some-total-clause-table
returns-in-Some-total-clause-table c =
    let others = c.split_line-in-Some-line_length.result.1.now in
    let line = c.split_line-in-Some-line_length.result.0.now in
    let rest = c.lines.rest.now in
    let first = first_line rest line others c.in-Some-line_length.length (subst (IsLine rest) c.in-Some-line_length.is c.line_length-in-lines.ensures) c.split_line-in-Some-line_length.ensures.line c.split_line-in-Some-line_length.ensures.behind in
    reads_table (read_text c.args.text.now) (format_of c.in-Some-header.format) c.lines.table.rows.items c.in-Some-total.total c.set_total.new.self
    (total_on (read_text c.args.text.now) (map shown c.lines.table.rows.items) (format_of c.in-Some-header.format) c.lines.expected c.in-Some-total.total rest line others c.lines.invariant.read first (ap total_in c.split_word.ensures.words ∙ sym c.total.ensures ∙ c.in-Some-total.is)
    (is_none others c.is_empty.result c.is_empty.ensures c.if-not-is_empty.false))
    c.set_total.ensures.rows c.set_total.ensures.total

pub returns-in_default-row-clause-table : goal.returns-in_default-row-clause-table
returns-in_default-row-clause-table c =
    let others = c.split_line-in-Some-line_length.result.1.now in
    let line = c.split_line-in-Some-line_length.result.0.now in
    let rest = c.lines.rest.now in
    let first = first_line rest line others c.in-Some-line_length.length (subst (IsLine rest) c.in-Some-line_length.is c.line_length-in-lines.ensures) c.split_line-in-Some-line_length.ensures.line c.split_line-in-Some-line_length.ensures.behind in
    reads_bad (read_text c.args.text.now) c.lines.expected c.bad-in_default-row.result
    (bad_on (read_text c.args.text.now) (map shown c.lines.table.rows.items) (format_of c.in-Some-header.format) c.lines.expected rest line others c.lines.invariant.read first (ap total_in c.split_word.ensures.words ∙ sym c.total.ensures ∙ c.in_default-total.is) (ap (row_in (format_of c.in-Some-header.format) c.lines.expected) c.split_word.ensures.words ∙ sym c.row.ensures ∙ ap (option_map said) c.in_default-row.is))
    c.bad-in_default-row.ensures

pub lines-preserved : goal.lines-preserved
lines-preserved c =
    let others = c.split_line-in-Some-line_length.result.1.now in
    let line = c.split_line-in-Some-line_length.result.0.now in
    let rest = c.lines.rest.now in
    let first = first_line rest line others c.in-Some-line_length.length (subst (IsLine rest) c.in-Some-line_length.is c.line_length-in-lines.ensures) c.split_line-in-Some-line_length.ensures.line c.split_line-in-Some-line_length.ensures.behind in
    let f = format_of c.in-Some-header.format in
    let x = said c.in-Some-row.found in
    let found = ap (row_in f c.lines.expected) c.split_word.ensures.words ∙ sym c.row.ensures ∙ ap (option_map said) c.in-Some-row.is in
    let eight = row_eight f c.lines.expected (split_words line) x found in
    let few = eight.0 in
    let rows = c.lines.table.rows.items in
    let added = c.in_ok-push_line.ensures in
    let count = c.lines.invariant.count in
    let more = ap length added ∙ length-append rows _ in
    record {
      read = row_on (read_text c.args.text.now) (map shown rows) f c.lines.expected rest line others x c.lines.invariant.read first (ap total_in c.split_word.ensures.words ∙ sym c.total.ensures ∙ c.in_default-total.is) found
          ∙ ap (λ xs. behind_rows xs (read_rows f (c.lines.expected + 1) (split_lines others).0 (split_lines others).1)) (sym (row_added rows c.push_line.new.table.rows.items c.in-Some-row.found added eight.1));
      count = omega (arith, count, more);
      few = omega (arith, few);
    }

pub returns-clause-table : goal.returns-clause-table
returns-clause-table c =
    let rest = c.lines.rest.now in
    reads_bad (read_text c.args.text.now) c.lines.expected c.bad-2.result
    (ends (read_text c.args.text.now) (map shown c.lines.table.rows.items) (format_of c.in-Some-header.format) c.lines.expected rest c.lines.invariant.read (subst (IsLine rest) c.in_default-line_length.is c.line_length-in-lines.ensures))
    c.bad-2.ensures

pub returns-in-Some-total-clause-few : goal.returns-in-Some-total-clause-few
returns-in-Some-total-clause-few c =
    let count = c.lines.invariant.count in
    let few = c.lines.invariant.few in
    let same = ap length c.set_total.ensures.rows in
    omega (arith, count, few, same)
