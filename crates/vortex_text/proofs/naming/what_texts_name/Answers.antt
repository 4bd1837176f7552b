use Rattle.vortex_text.proofs.Fitting.NamedFits.{named_fits}
use Rattle.vortex_text.proofs.NamedLines.{bad_named, named_bad, named_query, query_named}
use Rattle.vortex_text.proofs.naming.what_texts_name.Goals as goal

pub returns : goal.returns
returns c = record {
  query = λ text parts predicate. (query_named text parts predicate, named_query text parts predicate);
  bad = λ text n. (bad_named text n, named_bad text n);
  fits = named_fits;
}
