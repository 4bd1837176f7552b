use Rattle.vortex_parquet.proofs.DataPageRows.{data_pages_hold}
use Rattle.vortex_parquet.proofs.IndexRows.{indexes}
use Rattle.vortex_parquet.proofs.PageRows.{pages, stretches}
use Rattle.vortex_parquet.proofs.laws.page_examples_hold.Goals as goal

pub returns : goal.returns
returns c = record { pages = pages; stretches = stretches; indexes = indexes; data_pages = data_pages_hold }
