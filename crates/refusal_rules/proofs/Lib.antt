mod RefusalCases
