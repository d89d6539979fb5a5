-- What a complaint says of a command on a plan that cannot be used.
use Rattle.std.specs.Prelude.{ℕ, List, codes}
use Rattle.days.specs.Faults.{fault_text}
use Rattle.plan_commands.specs.declared.complaint.PlanComplaint.{PlanComplaint}
use Rattle.plan_commands.specs.declared.complaint.PlanComplaint.TheVariants.{OpenWords, LoadWords, SeekWords, DrawWords, AloneWords, ReportWords, ListWords, RunWords, BadDate, BadSize, BadCount, BadBytes, NotInScript}

abbrev pub complaint_text : PlanComplaint → List ℕ
complaint_text OpenWords = codes "open takes two dates, and three table sizes if any, as open 20140101 20141231 999 999 999"
complaint_text LoadWords = codes "load takes a file, as load crew.ics"
complaint_text SeekWords = codes "seek takes a date, as seek 20140301"
complaint_text DrawWords = codes "draw takes a number of lines or all, as draw 10"
complaint_text AloneWords = codes "mark, close and waive take nothing"
complaint_text ReportWords = codes "report takes a size if any, as report 190"
complaint_text ListWords = codes "list takes two dates and files, as list 20140101 20141231 crew.ics"
complaint_text RunWords = codes "run takes a script, as run season.txt"
complaint_text (BadDate fault) = fault_text fault
complaint_text BadSize = codes "a table size is a number from 0 to 9999"
complaint_text BadCount = codes "a number of draws is from 1 to 1000000, or all"
complaint_text BadBytes = codes "a report's size is a number from 0 to 1000000"
complaint_text NotInScript = codes "a script has open, load, seek and draw with a number"
