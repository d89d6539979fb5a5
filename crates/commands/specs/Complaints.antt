-- What a complaint says of a line that cannot be used.
use Rattle.std.specs.Prelude.{ℕ, List, codes}
use Rattle.days.specs.Faults.{fault_text}
use Rattle.commands.specs.declared.complaint.Complaint.{Complaint}
use Rattle.commands.specs.declared.complaint.Complaint.TheVariants.{Unknown, DateWords, DayWords, YearWords, CheckWords, DaysWords, BadDate, BadYear, BadCode, BadDay, NoCalendar}

abbrev pub complaint_text : Complaint → List ℕ
complaint_text Unknown = codes "the commands are date, day, year, check and days"
complaint_text DateWords = codes "date takes a date, as date 20140208"
complaint_text DayWords = codes "day takes a calendar, a year, a month code and a day, as day hebrew 5774 5L 8"
complaint_text YearWords = codes "year takes a calendar and a year, as year hebrew 5774"
complaint_text CheckWords = codes "check takes a file, as check crew.ics"
complaint_text DaysWords = codes "days takes a file and two dates, as days crew.ics 20140101 20141231"
complaint_text (BadDate fault) = fault_text fault
complaint_text BadYear = codes "the year is no number of 32 bits"
complaint_text BadCode = codes "a month code is 1 to 13, with or without L"
complaint_text BadDay = codes "the day is no number from 0 to 255"
complaint_text NoCalendar = codes "no calendar on the shelf bears that name"
