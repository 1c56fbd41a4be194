-- `listing::write_text` meets its contract: the job's own checks, and then what it gives.
-- Assumes nothing.
use Rattle.numbers.proofs.RefusalsLaws.{told-pass, told-refuse}
use Rattle.listing.proofs.ListingLaws.{wrote-early}
use Rattle.listing.proofs.write_text.Goals as goal

pub returns-in-Err : goal.returns-in-Err
returns-in-Err c =
    let a = c.args in
    wrote-early a.profile a.job.now _ (told-refuse c.check_job.ensures c.in-Err.is) c.put_refused.ensures

pub write_checked-requires : goal.write_checked-requires
write_checked-requires c = (told-pass c.check_job.ensures c.in_default.is, c.requires)
