-- `placing::list_within` meets its contract: quotas in units of the easy weight, then places.
use Rattle.std.proofs.Common.{ap, ◌∙◌, replicate}
use Rattle.placing.proofs.Units.{within_all}
use Rattle.placing.proofs.list_within.Goals as goal

pub serve_all-requires-clause-owners_value : goal.serve_all-requires-clause-owners_value
serve_all-requires-clause-owners_value c = c.fill.ensures.after (λ y e. e) ∙ ap (λ k. replicate k 0) c.requires.owners_len

pub returns : goal.returns
returns c = within_all c.serve_all.ensures.valid c.requires.measured_sheet c.serve_all.ensures.served c.place_rest.ensures
