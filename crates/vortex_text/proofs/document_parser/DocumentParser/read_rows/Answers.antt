use Rattle.vortex_base.specs.Data.Scopes.{named_columns}
use Rattle.vortex_text.proofs.ManyRows.{held_rows}
use Rattle.vortex_text.proofs.document_parser.DocumentParser.read_rows.Goals as goal

pub returns-in-Some-None-clause-read : goal.returns-in-Some-None-clause-read
returns-in-Some-None-clause-read c =
    let d = c.args.self.now in
    let (fits, read) = held_rows c.push_rows.result.0 (named_columns d.columns) d.store d.predicate c.in-Some-None.store c.push_rows.new.self c.args.text.now c.push_rows.result.1.now c.in-Some-None.is-0 c.in-Some-None.is-1 c.requires.fits c.push_rows.ensures.rows in
    read

pub returns-in-Some-None-clause-fits : goal.returns-in-Some-None-clause-fits
returns-in-Some-None-clause-fits c =
    let d = c.args.self.now in
    let (fits, read) = held_rows c.push_rows.result.0 (named_columns d.columns) d.store d.predicate c.in-Some-None.store c.push_rows.new.self c.args.text.now c.push_rows.result.1.now c.in-Some-None.is-0 c.in-Some-None.is-1 c.requires.fits c.push_rows.ensures.rows in
    fits
