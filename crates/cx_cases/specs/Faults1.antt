-- Texts, each with its first fault.
use Rattle.std.specs.Prelude.{ℕ, List, codes}

-- line 2 has the fault TooLong
abbrev pub derived_bytes18 : List ℕ
derived_bytes18 = codes "cxthread 1\nxxxxxxxxxxxxxxxxxxxxxxxxxxxxxxxxxxxxxxxxxxxxxxxxxxxxxxxxxxxxxxxxxxxxxxxxxxxxxxxxxxxxxxxxxxxxxxxxxxxxxxxxxxxxxxxxxxxxxxxxx\nmain\nend\n"

-- line 4 has the fault TooLong
abbrev pub derived_bytes22 : List ℕ
derived_bytes22 = codes "cxthread 1\nmain\nend\n                                                                                                                         "

-- line 2 has the fault BadWord
abbrev pub derived_fault001 : List ℕ
derived_fault001 = codes "cxthread 1\nthread ok\nmain\nend\n"

-- line 2 has the fault BadWord
abbrev pub derived_fault011 : List ℕ
derived_fault011 = codes "cxthread 1\nmutex m -1\nmain\nend\n"

-- line 2 has the fault OutOfRange
abbrev pub derived_fault015 : List ℕ
derived_fault015 = codes "cxthread 1\nsemaphore q 0 0\nmain\nend\n"

-- line 2 has the fault BadWord
abbrev pub derived_fault019 : List ℕ
derived_fault019 = codes "cxthread 1\nsemaphore q -1 1\nmain\nend\n"

-- line 2 has the fault OutOfRange
abbrev pub derived_fault023 : List ℕ
derived_fault023 = codes "cxthread 1\nbarrier b 0\nmain\nend\n"

-- line 2 has the fault UnknownName
abbrev pub derived_fault027 : List ℕ
derived_fault027 = codes "cxthread 1\nbarrier b 0 release q 1\nmain\nend\n"

-- line 3 has the fault BadWord
abbrev pub derived_fault031 : List ℕ
derived_fault031 = codes "cxthread 1\nsemaphore q 0 1\nbarrier b 1 deregister b\nmain\nend\n"

-- line 2 has the fault Twice
abbrev pub derived_fault033 : List ℕ
derived_fault033 = codes "cxthread 1\nstop st main main\nmain\nend\n"

-- line 2 has the fault UnknownName
abbrev pub derived_fault035 : List ℕ
derived_fault035 = codes "cxthread 1\nstop st st\nmain\nend\n"

-- line 3 has the fault WrongKind
abbrev pub derived_fault037 : List ℕ
derived_fault037 = codes "cxthread 1\nasync x async return 1\nstop st x\nmain\nend\n"

-- line 7 has the fault BadWord
abbrev pub derived_fault039 : List ℕ
derived_fault039 = codes "cxthread 1\nthread a\nthread b\nthread c\nthread d\nthread e\nstop st main a b c d e\nmain\nend\n"

-- line 3 has the fault BadWord
abbrev pub derived_fault043 : List ℕ
derived_fault043 = codes "cxthread 1\nstop st\ncallback k st deregister j\nmain\nend\n"

-- line 3 has the fault WrongKind
abbrev pub derived_fault045 : List ℕ
derived_fault045 = codes "cxthread 1\nthread w\ncallback k w deregister k\nmain\nend\n"

-- line 3 has the fault Twice
abbrev pub derived_fault047 : List ℕ
derived_fault047 = codes "cxthread 1\nmutex m 1\nthread m\nmain\nend\n"

-- line 2 has the fault BadWord
abbrev pub derived_fault051 : List ℕ
derived_fault051 = codes "cxthread 1\nshared_promise p main\nmain\nend\n"

-- line 2 has the fault BadWord
abbrev pub derived_fault053 : List ℕ
derived_fault053 = codes "cxthread 1\ntask f main main return\nmain\nend\n"

-- line 2 has the fault OutOfRange
abbrev pub derived_fault055 : List ℕ
derived_fault055 = codes "cxthread 1\ntask f main main return 9223372036854775808\nmain\nend\n"

-- line 2 has the fault BadWord
abbrev pub derived_fault059 : List ℕ
derived_fault059 = codes "cxthread 1\ntask f main main throw -1\nmain\nend\n"
